-- `lane_lines::seen_lanes` meets its contract: at the fault's site the stuck value in every lane, elsewhere the lanes themselves.
-- Assumes nothing.
use Rattle.lane_lines.proofs.Line.{seen-stuck, seen_off}
use Rattle.lane_lines.proofs.seen_lanes.Goals as goal

pub returns-then-site-fault : goal.returns-then-site-fault
returns-then-site-fault c = seen-stuck c.args.fault c.if-site-fault.true c.same_lanes.ensures

pub returns : goal.returns
returns c = seen_off c.args.fault c.if-site-fault.false

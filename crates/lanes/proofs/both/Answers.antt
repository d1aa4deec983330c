-- `lanes::both` meets its contract: 1 where both are 1, 0 where either is 0.
-- Assumes nothing.
use Rattle.lanes.proofs.Values.{and_lanes}
use Rattle.lanes.proofs.both.Goals as goal

pub returns : goal.returns
returns c = and_lanes

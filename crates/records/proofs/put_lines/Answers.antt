-- `records::put_lines` meets its contract. The invariant: the records of the lines below k are written.
-- Assumes nothing.
use Rattle.records.proofs.Lines.{so_far_none, line_room, so_far_more, so_far_all}
use Rattle.records.proofs.put_lines.Goals as goal

pub loop-k-init : goal.loop-k-init
loop-k-init c = so_far_none _ _

pub put_line-at-requires : goal.put_line-at-requires
put_line-at-requires c =
    line_room c.loop-k.invariant c.requires.put_lines_ready
    c.requires.records_len c.loop-k-test.true

pub loop-k-preserved : goal.loop-k-preserved
loop-k-preserved c = so_far_more c.loop-k.invariant c.loop-k-test.true c.put_line-at.ensures

pub returns : goal.returns
returns c = so_far_all c.loop-k.invariant c.requires.records_len c.loop-k-test.false

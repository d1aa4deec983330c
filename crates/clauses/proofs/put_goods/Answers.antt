-- `clauses::put_goods` meets its contract. The invariant: the lines below k have been written.
-- Assumes nothing.
use Rattle.clauses.proofs.Loops.{so_far_none, line_room, so_far_more, so_far_all}
use Rattle.clauses.proofs.put_goods.Goals as goal

pub loop-k-init : goal.loop-k-init
loop-k-init c = so_far_none _ _ _ _

pub put_good-next-requires : goal.put_good-next-requires
put_good-next-requires c = line_room c.loop-k.invariant c.requires.circuit c.requires.room c.loop-k-test.true

pub loop-k-preserved : goal.loop-k-preserved
loop-k-preserved c = so_far_more c.loop-k.invariant c.loop-k-test.true c.put_good-next.ensures

pub returns : goal.returns
returns c = so_far_all c.loop-k.invariant c.loop-k-test.false

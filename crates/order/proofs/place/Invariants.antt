-- `order::place` meets its contract. The invariant: what is placed is placed in order, and no gate below the cursor is ready.
-- Assumes nothing.
use lib.ListN.{length}
use Rattle.order.proofs.Placing.{SoFar, left}
use Rattle.order.proofs.place.Given as goal

abbrev pub invariant-loop-c : goal.invariant-loop-c
invariant-loop-c l = SoFar l.a l.b l.placed l.order l.n l.c

abbrev pub decreases-loop-c : goal.decreases-loop-c
decreases-loop-c l = left (length l.a) l.n l.c

-- `names::enter` meets its contract: each definition is looked for, and then joins the table.
-- Assumes nothing.
use Rattle.names.proofs.Loops.{Entering}
use Rattle.names.proofs.enter.Given as goal

abbrev pub invariant-loop-n : goal.invariant-loop-n
invariant-loop-n l = Entering l.text l.defs l.head l.next l.low l.n

-- `control::fill_chances` meets its contract: the readings are counted, then the lines have their turns in order.
-- Assumes nothing.
use lib.ListN.{length}
use Rattle.control.proofs.Lines.{Filling}
use Rattle.control.proofs.fill_chances.Given as goal

abbrev pub invariant-loop-k : goal.invariant-loop-k
invariant-loop-k l = Filling l.circuit l.reads (length l.initial.ones) l.ones l.zeros l.k

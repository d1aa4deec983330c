-- `circuit::limit` meets its contract: one answer for each branch.
-- Assumes nothing.
use borrow.Author.Tests.{le-leb, lt-leb}
use Rattle.circuit.specs.Owed.{limit_of}
use Rattle.circuit.proofs.limit.Goals as goal

pub returns-then-s-has : goal.returns-then-s-has
unfolding limit_of
returns-then-s-has c = simp (le-leb _ _ (rw c.pins-has.ensures at c.if-s-has.true))

pub returns : goal.returns
unfolding limit_of
returns c = simp (lt-leb _ _ (rw c.pins-has.ensures at c.if-s-has.false))

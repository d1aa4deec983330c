-- `lanes::second` meets its contract: a kind with one pin sees the first twice.
-- Assumes nothing.
use borrow.Author.Tests.{le-leb, lt-leb}
use Rattle.lanes.specs.Owed.{second_of}
use Rattle.lanes.proofs.second.Goals as goal

pub returns-then-kind-le2 : goal.returns-then-kind-le2
unfolding second_of
returns-then-kind-le2 c i v w l h k = simp (le-leb _ _ c.if-kind-le2.true) h

pub returns-else-kind-le2 : goal.returns-else-kind-le2
unfolding second_of
returns-else-kind-le2 c i v w l h k = simp (lt-leb _ _ c.if-kind-le2.false) k

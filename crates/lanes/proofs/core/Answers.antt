-- `lanes::core` meets its contract: kinds 7 and 8 are XOR, the others AND.
-- Assumes nothing.
use borrow.Author.Tests.{le-leb, lt-leb}
use Rattle.lanes.specs.Owed.{core_of}
use Rattle.lanes.proofs.core.Goals as goal

pub returns-then-kind-ge7 : goal.returns-then-kind-ge7
unfolding core_of
returns-then-kind-ge7 c i v w l h k = simp (le-leb _ _ c.if-kind-ge7.true) (c.odd.ensures i v w l h k)

pub returns-else-kind-ge7 : goal.returns-else-kind-ge7
unfolding core_of
returns-else-kind-ge7 c i v w l h k = simp (lt-leb _ _ c.if-kind-ge7.false) (c.both.ensures i v w l h k)

-- `setting::on_both` meets its contract: one answer for each branch.
-- Assumes nothing.
use borrow.Author.Tests.{le-leb, lt-leb}
use Rattle.setting.specs.Owed.{both}
use Rattle.setting.proofs.on_both.Goals as goal

pub returns-then-s-le2 : goal.returns-then-s-le2
unfolding both
returns-then-s-le2 c = simp (le-leb _ _ c.if-s-le2.true)

pub returns-else-s-le2 : goal.returns-else-s-le2
unfolding both
returns-else-s-le2 c = simp (lt-leb _ _ c.if-s-le2.false)

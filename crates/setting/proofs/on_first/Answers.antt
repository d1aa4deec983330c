-- `setting::on_first` meets its contract: one answer for each branch.
-- Assumes nothing.
use borrow.Author.Tests.{eq-eqb, ne_eqb}
use Rattle.setting.specs.Owed.{alone}
use Rattle.setting.proofs.on_first.Goals as goal

pub returns-then-s-eq-FIRST : goal.returns-then-s-eq-FIRST
unfolding alone
returns-then-s-eq-FIRST c = simp (eq-eqb _ _ c.if-s-eq-FIRST.true)

pub returns-else-s-eq-FIRST : goal.returns-else-s-eq-FIRST
unfolding alone
returns-else-s-eq-FIRST c = simp (ne_eqb _ _ c.if-s-eq-FIRST.false)

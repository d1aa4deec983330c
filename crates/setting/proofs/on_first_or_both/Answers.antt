-- `setting::on_first_or_both` meets its contract: one answer for each branch.
-- Assumes nothing.
use borrow.Author.Tests.{eq-eqb, ne_eqb}
use Rattle.setting.specs.Owed.{forced_or}
use Rattle.setting.proofs.on_first_or_both.Goals as goal

pub returns-then-u-forced : goal.returns-then-u-forced
unfolding forced_or
returns-then-u-forced c = rw (eq-eqb _ _ c.if-u-forced.true) c.on_first.ensures

pub returns-else-u-forced : goal.returns-else-u-forced
unfolding forced_or
returns-else-u-forced c = rw (ne_eqb _ _ c.if-u-forced.false) c.on_both.ensures

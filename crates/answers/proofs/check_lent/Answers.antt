-- `answers::check_lent` meets its contract: one answer for each branch.
-- Assumes nothing.
use borrow.Author.Tests.{eq-eqb, ne_eqb}
use Rattle.answers.specs.Lent.{lent_rules}
use Rattle.answers.specs.Rules.{said, refusal}
use Rattle.answers.proofs.check_lent.Goals as goal

pub returns-then-lent-size : goal.returns-then-lent-size
unfolding lent_rules refusal said
returns-then-lent-size c = simp (ne_eqb _ _ c.if-lent-size.true)

pub returns-then-lent2-size2 : goal.returns-then-lent2-size2
unfolding lent_rules refusal said
returns-then-lent2-size2 c = simp (eq-eqb _ _ c.if-lent-size.false, ne_eqb _ _ c.if-lent2-size2.true)

pub returns : goal.returns
unfolding lent_rules refusal said
returns c = simp (eq-eqb _ _ c.if-lent-size.false, eq-eqb _ _ c.if-lent2-size2.false)

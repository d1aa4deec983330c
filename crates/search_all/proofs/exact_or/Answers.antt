-- `search_all::exact_or` meets its contract: one answer for each branch.
-- Assumes nothing.
use borrow.Author.Tests.{eq-eqb, ne_eqb}
use Rattle.answers.specs.Rules.{said}
use Rattle.search_all.proofs.exact_or.Goals as goal

pub returns-then-lent-size : goal.returns-then-lent-size
unfolding said
returns-then-lent-size c = simp (ne_eqb _ _ c.if-lent-size.true)

pub returns : goal.returns
unfolding said
returns c = simp (eq-eqb _ _ c.if-lent-size.false)

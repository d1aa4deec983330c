-- `entry::joined` meets its contract: one answer for each branch.
-- Assumes nothing.
use borrow.Author.Tests.{eq-eqb, ne_eqb}
use Rattle.entry.specs.Owed.{joined_of}
use Rattle.entry.proofs.joined.Goals as goal

pub returns-then-s-eq-PASS : goal.returns-then-s-eq-PASS
unfolding joined_of
returns-then-s-eq-PASS c = simp (eq-eqb _ _ c.if-s-eq-PASS.true)

pub returns-else-s-eq-PASS : goal.returns-else-s-eq-PASS
unfolding joined_of
returns-else-s-eq-PASS c = simp (ne_eqb _ _ c.if-s-eq-PASS.false)

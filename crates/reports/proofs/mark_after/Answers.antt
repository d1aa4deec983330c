-- `reports::mark_after` meets its contract: by its test.
-- Assumes nothing.
use borrow.Author.Tests.{eq-eqb, ne_eqb}
use Rattle.reports.proofs.mark_after.Goals as goal

pub returns-then-entry-bad : goal.returns-then-entry-bad
returns-then-entry-bad c = simp (eq-eqb _ _ c.if-entry-bad.true)

pub returns-else-entry-bad : goal.returns-else-entry-bad
returns-else-entry-bad c = simp (ne_eqb _ _ c.if-entry-bad.false)

-- `cut_lines::cut_out` meets its contract: one answer for each branch.
-- Assumes nothing.
use borrow.Author.Tests.{eq-eqb, ne_eqb}
use Rattle.cut_lines.specs.Owed.{out_by}
use Rattle.cut_lines.proofs.cut_out.Goals as goal

pub returns-then-mark-eq-OTHER_FREE : goal.returns-then-mark-eq-OTHER_FREE
unfolding out_by
returns-then-mark-eq-OTHER_FREE c = simp (eq-eqb _ _ c.if-mark-eq-OTHER_FREE.true)

pub returns-else-mark-eq-OTHER_FREE : goal.returns-else-mark-eq-OTHER_FREE
unfolding out_by
returns-else-mark-eq-OTHER_FREE c = simp (ne_eqb _ _ c.if-mark-eq-OTHER_FREE.false)

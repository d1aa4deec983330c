-- `compact::compact` meets its contract: the rules of the table and the marks first, then the marks.
-- Assumes nothing.
use mathlib.Core.Path.{sym, ◌∙◌}
use Rattle.answers.proofs.Answer.{handed_on}
use Rattle.tables.proofs.Says.{fine_kept}
use Rattle.compact.proofs.Promise.{refused, marked}
use Rattle.compact.proofs.compact.Goals as goal

pub mark_table-requires : goal.mark_table-requires
mark_table-requires c =
    let h = fine_kept _ _ _ _ (sym c.check_marks.ensures ∙ c.in_ok-check_marks.was) in record { sized = h.0; marks_len = h.1 }

pub returns-in_err-check_marks : goal.returns-in_err-check_marks
returns-in_err-check_marks c = rw (handed_on c.from_residual.ensures.1) (refused (sym c.check_marks.ensures ∙ c.in_err-check_marks.was))

pub returns : goal.returns
returns c =
    marked (sym c.check_marks.ensures ∙ c.in_ok-check_marks.was) c.mark_table.ensures

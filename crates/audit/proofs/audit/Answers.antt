-- `audit::audit` meets its contract: the rules of the table and its marks first, then the finding.
-- Assumes nothing.
use mathlib.Core.Path.{sym, ◌∙◌}
use Rattle.answers.proofs.Answer.{handed_on}
use Rattle.tables.proofs.Says.{fine_kept}
use Rattle.audit.proofs.Promise.{marks_refused, marks_fine}
use Rattle.audit.proofs.audit.Goals as goal

pub audit_table-requires : goal.audit_table-requires
audit_table-requires c =
    let kept = fine_kept _ _ _ _ (sym c.check_marks.ensures ∙ c.in_ok-check_marks.was) in
    record { sized = kept.0; marks_len = kept.1 }

pub returns-in_err-check_marks : goal.returns-in_err-check_marks
returns-in_err-check_marks c = rw (handed_on c.from_residual.ensures.1) (marks_refused (sym c.check_marks.ensures ∙ c.in_err-check_marks.was))

pub returns : goal.returns
returns c = marks_fine (sym c.check_marks.ensures ∙ c.in_ok-check_marks.was) c.audit_table.ensures

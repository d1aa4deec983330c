-- `tables::check_marks` meets its contract: the table's rules first, then the marks' size.
-- Assumes nothing.
use mathlib.Core.Path.{sym, ◌∙◌}
use Rattle.answers.proofs.Answer.{handed_on}
use Rattle.answers.proofs.Rules.{after_refused, after_fine}
use Rattle.tables.specs.Table.{table_rules}
use Rattle.tables.specs.Marks.{marks_rules}
use Rattle.tables.proofs.check_marks.Goals as goal

pub returns-in_err-check_table : goal.returns-in_err-check_table
returns-in_err-check_table c = handed_on c.from_residual.ensures.1 ∙ (sym (after_refused (table_rules _ _ _) (marks_rules _ _) (sym c.check_table.ensures ∙ c.in_err-check_table.was)))

pub returns : goal.returns
returns c = c.check_size.ensures ∙ sym (after_fine (table_rules _ _ _) (marks_rules _ _) (sym c.check_table.ensures ∙ c.in_ok-check_table.was))

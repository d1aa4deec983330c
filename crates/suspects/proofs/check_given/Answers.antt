-- `suspects::check_given` meets its contract: the table's rules first, then the pattern.
-- Assumes nothing.
use mathlib.Core.Path.{sym, ◌∙◌}
use Rattle.answers.proofs.Rules.{after_refused, after_fine}
use Rattle.answers.proofs.Answer.{handed_on}
use Rattle.tables.specs.Table.{table_rules}
use Rattle.suspects.specs.Promise.{pattern_rules}
use Rattle.suspects.proofs.check_given.Goals as goal

pub returns-in_err-check_table : goal.returns-in_err-check_table
returns-in_err-check_table c =
    handed_on c.from_residual.ensures.1 ∙ sym (after_refused (table_rules _ _ _) (pattern_rules _ _) (sym c.check_table.ensures ∙ c.in_err-check_table.was))

pub returns : goal.returns
returns c = c.check_pattern.ensures ∙ sym (after_fine (table_rules _ _ _) (pattern_rules _ _) (sym c.check_table.ensures ∙ c.in_ok-check_table.was))

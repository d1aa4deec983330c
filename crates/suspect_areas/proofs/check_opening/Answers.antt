-- `suspect_areas::check_opening` meets its contract: the size first, then the table's rules.
-- Assumes nothing.
use mathlib.Core.Path.{sym, ◌∙◌}
use Rattle.answers.proofs.Rules.{after_refused, after_fine}
use Rattle.answers.proofs.Answer.{handed_on}
use Rattle.tables.specs.Table.{table_rules}
use Rattle.suspect_areas.specs.Promise.{size_rules}
use Rattle.suspect_areas.proofs.check_opening.Goals as goal

pub returns-in_err-check_size : goal.returns-in_err-check_size
returns-in_err-check_size c =
    handed_on c.from_residual.ensures.1 ∙ sym (after_refused (size_rules _) (table_rules _ _ _) (sym c.check_size.ensures ∙ c.in_err-check_size.was))

pub returns : goal.returns
returns c = c.check_table.ensures ∙ sym (after_fine (size_rules _) (table_rules _ _ _) (sym c.check_size.ensures ∙ c.in_ok-check_size.was))

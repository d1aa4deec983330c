-- `lists::check_lists` meets its contract: a refusal of the faults is handed on, else the patterns decide.
-- Assumes nothing.
use mathlib.Core.Path.{sym, ◌∙◌}
use Rattle.lists.specs.Patterns.{pattern_rules}
use Rattle.lists.specs.Faults.{fault_rules}
use Rattle.answers.proofs.Rules.{after_refused, after_fine}
use Rattle.answers.proofs.Answer.{handed_on}
use Rattle.lists.proofs.check_lists.Goals as goal

pub returns-in_err-check_faults : goal.returns-in_err-check_faults
returns-in_err-check_faults c =
    handed_on c.from_residual.ensures.1 ∙ sym (after_refused (fault_rules 256 _ _) (pattern_rules _ _) (sym c.check_faults.ensures ∙ c.in_err-check_faults.was))

pub returns : goal.returns
returns c = c.check_patterns.ensures ∙ sym (after_fine (fault_rules 256 _ _) (pattern_rules _ _) (sym c.check_faults.ensures ∙ c.in_ok-check_faults.was))

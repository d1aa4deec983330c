-- `search::check_rest` meets its contract: a refusal of the fault is handed on, else the lent buffers decide.
-- Assumes nothing.
use mathlib.Core.Path.{sym, ◌∙◌}
use Rattle.lists.specs.Faults.{fault_rules}
use Rattle.answers.proofs.Rules.{after_refused, after_fine}
use Rattle.answers.proofs.Answer.{handed_on}
use Rattle.search.proofs.check_rest.Goals as goal

pub returns-in_err-check_faults : goal.returns-in_err-check_faults
returns-in_err-check_faults c = handed_on c.from_residual.ensures.1 ∙ sym (after_refused (fault_rules 1 _ _) _ (sym c.check_faults.ensures ∙ c.in_err-check_faults.was))

pub returns : goal.returns
returns c = c.check_lent.ensures ∙ sym (after_fine (fault_rules 1 _ _) _ (sym c.check_faults.ensures ∙ c.in_ok-check_faults.was))

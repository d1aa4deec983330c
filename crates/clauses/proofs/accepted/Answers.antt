-- `clauses::accepted` meets its contract: a refusal of the fault is handed on, else the room decides.
-- Assumes nothing.
use mathlib.Core.Path.{sym, ◌∙◌}
use Rattle.answers.proofs.Answer.{handed_on, first_refused, first_fine}
use Rattle.clauses.proofs.Answer.{counted, one_fault}
use Rattle.clauses.proofs.accepted.Goals as goal

pub read_fault-f-requires : goal.read_fault-f-requires
read_fault-f-requires c = one_fault _ _ (sym c.check_faults.ensures ∙ c.in_ok-check_faults.was)

pub fitted-requires : goal.fitted-requires
fitted-requires c = counted c.requires

pub returns-in_err-check_faults : goal.returns-in_err-check_faults
returns-in_err-check_faults c = rw (handed_on c.from_residual.ensures.1) (first_refused _ _ (sym c.check_faults.ensures ∙ c.in_err-check_faults.was))

pub returns : goal.returns
returns c =
    first_fine _ _ (sym c.check_faults.ensures ∙ c.in_ok-check_faults.was)
    (rw c.read_fault-f.ensures at c.fitted.ensures)

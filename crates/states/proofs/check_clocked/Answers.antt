-- `states::check_clocked` meets its contract: a refusal of the circuit is handed on, else the steps decide.
-- Assumes nothing.
use Rattle.answers.proofs.Answer.{handed_on}
use Rattle.circuit.proofs.Accepted.{accepts, refuses, known}
use Rattle.states.proofs.Steps.{circuit_refused, steps_decide}
use Rattle.states.proofs.check_clocked.Goals as goal

pub check_steps-requires : goal.check_steps-requires
check_steps-requires c = known (accepts c.in_ok-counts.was c.check.ensures)

pub returns-in_err-counts : goal.returns-in_err-counts
returns-in_err-counts c = rw (handed_on c.from_residual.ensures.1) (circuit_refused (refuses c.in_err-counts.was c.check.ensures))

pub returns : goal.returns
returns c = steps_decide (accepts c.in_ok-counts.was c.check.ensures) c.check_steps.ensures

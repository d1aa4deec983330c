-- `clauses::clauses` meets its contract: a refusal of the circuit is handed on, else the fault and the room decide.
-- Assumes nothing.
use Rattle.answers.proofs.Answer.{handed_on, first_refused, first_fine}
use Rattle.clauses.proofs.Answer.{any_inputs, writes}
use Rattle.circuit.proofs.Accepted.{accepts, refuses}
use Rattle.clauses.proofs.clauses.Goals as goal

pub accepted-requires : goal.accepted-requires
accepted-requires c = any_inputs (accepts c.in_ok-counts.was c.check.ensures)

pub returns-in_err-counts : goal.returns-in_err-counts
returns-in_err-counts c = rw (handed_on c.from_residual.ensures.1) (writes (first_refused _ _ (refuses c.in_err-counts.was c.check.ensures)))

pub returns : goal.returns
returns c =
    let a = accepts c.in_ok-counts.was c.check.ensures in
    writes (first_fine _ _ a.fine (rw a.lines at c.accepted.ensures))

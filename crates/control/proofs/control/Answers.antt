-- `control::control` meets its contract: a refusal of the circuit is handed on, else the rest decides.
-- Assumes nothing.
use Rattle.answers.proofs.Answer.{first_refused, first_fine, handed_on}
use Rattle.circuit.proofs.Accepted.{accepts, refuses, known}
use Rattle.control.proofs.Answer.{controls}
use Rattle.control.proofs.control.Goals as goal

pub accepted-requires : goal.accepted-requires
accepted-requires c =
    known (accepts c.in_ok-counts.was c.check.ensures)

pub returns-in_err-counts : goal.returns-in_err-counts
returns-in_err-counts c = rw (handed_on c.from_residual.ensures.1) (controls (first_refused _ _ (refuses c.in_err-counts.was c.check.ensures)))

pub returns : goal.returns
returns c =
    let k = accepts c.in_ok-counts.was c.check.ensures in
    controls (first_fine _ _ k.fine (rw k.lines at c.accepted.ensures))

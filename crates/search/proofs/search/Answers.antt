-- `search::search` meets its contract: a refusal of the circuit is handed on, else the rest decides.
-- Assumes nothing.
use Rattle.answers.proofs.Answer.{first_refused, first_fine, handed_on}
use Rattle.search.proofs.Answer.{searches}
use Rattle.circuit.proofs.Accepted.{accepts, refuses, known}
use Rattle.search.proofs.search.Goals as goal

pub accepted-requires : goal.accepted-requires
accepted-requires c =
    known (accepts c.in_ok-counts.was c.check.ensures)

pub returns-in_err-counts : goal.returns-in_err-counts
returns-in_err-counts c = rw (handed_on c.from_residual.ensures.1) (searches (first_refused _ _ (refuses c.in_err-counts.was c.check.ensures)))

pub returns : goal.returns
returns c =
    let k = accepts c.in_ok-counts.was c.check.ensures in
    searches (first_fine _ _ k.fine (rw (k.inputs, k.lines) at c.accepted.ensures))

-- `search_all::search_all` meets its contract: a refusal of the circuit is handed on, else the rest decides.
-- Assumes nothing.
use Rattle.answers.proofs.Answer.{first_refused, first_fine, handed_on}
use Rattle.circuit.proofs.Accepted.{accepts, refuses, known}
use Rattle.search_all.proofs.Answer.{searches_all}
use Rattle.search_all.proofs.search_all.Goals as goal

pub accepted-requires : goal.accepted-requires
accepted-requires c =
    known (accepts c.in_ok-size.was c.check.ensures)

pub returns-in_err-size : goal.returns-in_err-size
returns-in_err-size c = rw (handed_on c.from_residual.ensures.1) (searches_all (first_refused _ _ (refuses c.in_err-size.was c.check.ensures)))

pub returns : goal.returns
returns c =
    let k = accepts c.in_ok-size.was c.check.ensures in
    searches_all (first_fine _ _ k.fine (rw (k.inputs, k.lines) at c.accepted.ensures))

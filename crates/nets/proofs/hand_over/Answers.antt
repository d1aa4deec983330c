-- `nets::hand_over` meets its contract: a refusal of the check is handed on, else the buffer decides.
-- Assumes nothing.
use Rattle.answers.proofs.Answer.{handed_on, first_refused, first_fine}
use Rattle.nets.proofs.Answer.{whole}
use Rattle.circuit.proofs.Accepted.{accepts, refuses}
use Rattle.nets.proofs.hand_over.Goals as goal

pub returns-in_err-counts : goal.returns-in_err-counts
returns-in_err-counts c = rw (handed_on c.from_residual.ensures.1) (first_refused _ _ (refuses c.in_err-counts.was c.check.ensures))

pub lay-requires : goal.lay-requires
lay-requires c = whole (accepts c.in_ok-counts.was c.check.ensures)

pub returns : goal.returns
returns c = first_fine _ _ (accepts c.in_ok-counts.was c.check.ensures).fine c.lay.ensures

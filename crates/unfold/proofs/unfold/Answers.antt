-- `unfold::unfold` meets its contract: a refusal of the clocked circuit is handed on, else the buffer's size decides.
-- Assumes nothing.
use Rattle.answers.proofs.Answer.{handed_on}
use Rattle.states.proofs.Steps.{clocked_accepts}
use Rattle.unfold.proofs.Answer.{ready, refused_answer, room_answer}
use Rattle.unfold.proofs.unfold.Goals as goal

pub unfold_checked-requires : goal.unfold_checked-requires
unfold_checked-requires c =
    let k = clocked_accepts c.check_clocked.ensures c.in_ok-sizes.was in
    ready k.1 k.0

pub returns-in_err-sizes : goal.returns-in_err-sizes
returns-in_err-sizes c = rw (handed_on c.from_residual.ensures.1) (refused_answer c.check_clocked.ensures c.in_err-sizes.was)

pub returns : goal.returns
returns c = room_answer c.check_clocked.ensures c.in_ok-sizes.was c.unfold_checked.ensures

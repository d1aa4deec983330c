-- `control::accepted` meets its contract: a refusal is handed on, else the chances are there.
-- Assumes nothing.
use mathlib.Core.Path.{sym, ◌∙◌}
use Rattle.answers.proofs.Answer.{refused_done, handed_on}
use Rattle.control.proofs.Answer.{room_ready, rest_fine}
use Rattle.control.proofs.accepted.Goals as goal

pub fill_sized-requires : goal.fill_sized-requires
fill_sized-requires c = room_ready c.requires (sym c.check_lent.ensures ∙ c.in_ok-check_lent.was)

pub returns-in_err-check_lent : goal.returns-in_err-check_lent
returns-in_err-check_lent c = rw (handed_on c.from_residual.ensures.1) (refused_done (sym c.check_lent.ensures ∙ c.in_err-check_lent.was))

pub returns : goal.returns
returns c = rest_fine (sym c.check_lent.ensures ∙ c.in_ok-check_lent.was) c.fill_sized.ensures

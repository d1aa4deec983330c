-- `unfold_dictionary::unfold_dictionary` meets its contract: a refusal is handed on, else the table is filled.
-- Assumes nothing.
use Rattle.unfold_dictionary.proofs.Checked.{steps_accept}
use Rattle.unfold_dictionary.proofs.Filled.{refused_answer, made_answer}
use Rattle.answers.proofs.Answer.{handed_on}
use Rattle.unfold_dictionary.proofs.unfold_dictionary.Goals as goal

pub fill-requires : goal.fill-requires
fill-requires c =
    let a = steps_accept c.check_all_steps-checked.ensures c.in_ok-sizes.was in
    record { fine = a.0; lines = a.1; inputs = a.2 }

pub returns-in_err-sizes : goal.returns-in_err-sizes
returns-in_err-sizes c = rw (handed_on c.from_residual.ensures.1) (refused_answer c.check_all_steps-checked.ensures c.in_err-sizes.was)

pub returns : goal.returns
returns c =
    made_answer (steps_accept c.check_all_steps-checked.ensures c.in_ok-sizes.was).0 c.fill.ensures

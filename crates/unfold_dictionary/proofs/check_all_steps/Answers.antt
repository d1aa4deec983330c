-- `unfold_dictionary::check_all_steps` meets its contract: a refusal of the clocked circuit is handed on, else the rest decides.
-- Assumes nothing.
use mathlib.Core.Path.{sym, ◌∙◌}
use native.Mathlib.Omega.{arith}
use Rattle.answers.proofs.Answer.{handed_on}
use Rattle.states.proofs.Steps.{clocked_refuses, clocked_accepts}
use Rattle.unfold_dictionary.proofs.Checked.{clocked_refused, few_lines, rest_refused, rest_fine}
use Rattle.unfold_dictionary.proofs.check_all_steps.Goals as goal

pub overflow_mul-steps : goal.overflow_mul-steps
overflow_mul-steps c =
    let a = clocked_accepts c.check_clocked.ensures c.in_ok-sizes.was in
    omega (arith, few_lines a.0 a.1)

pub overflow_mul-steps-2 : goal.overflow_mul-steps-2
overflow_mul-steps-2 c =
    let a = clocked_accepts c.check_clocked.ensures c.in_ok-sizes.was in
    omega (arith, few_lines a.0 a.1)

pub check_rest-requires : goal.check_rest-requires
check_rest-requires c =
    let a = clocked_accepts c.check_clocked.ensures c.in_ok-sizes.was in
    omega (arith, a.2, a.0.good.some_inputs)

pub returns-in_err-sizes : goal.returns-in_err-sizes
returns-in_err-sizes c = rw (handed_on c.from_residual.ensures.1) (clocked_refused (clocked_refuses c.check_clocked.ensures c.in_err-sizes.was))

pub returns-in_err-check_rest : goal.returns-in_err-check_rest
returns-in_err-check_rest c =
    let a = clocked_accepts c.check_clocked.ensures c.in_ok-sizes.was in
    rw (handed_on c.from_residual-in_err-check_rest.ensures.1) (rest_refused a.0 a.1 a.2 (sym c.check_rest.ensures ∙ c.in_err-check_rest.was))

pub returns : goal.returns
returns c =
    let a = clocked_accepts c.check_clocked.ensures c.in_ok-sizes.was in
    rest_fine a.0 a.1 a.2 (sym c.check_rest.ensures ∙ c.in_ok-check_rest.was)

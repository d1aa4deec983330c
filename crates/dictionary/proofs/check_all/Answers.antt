-- `dictionary::check_all` meets its contract: a refusal of the circuit is handed on, else the rest decides.
-- Assumes nothing.
use mathlib.Core.Path.{sym, ◌∙◌}
use native.Mathlib.Nat.{mul-le-mul}
use native.Mathlib.Omega.{arith}
use Rattle.answers.proofs.Answer.{handed_on}
use Rattle.circuit.proofs.Accepted.{accepts, refuses}
use Rattle.dictionary.proofs.Checked.{circuit_refused, rest_refused, all_fine}
use Rattle.dictionary.proofs.check_all.Goals as goal

pub overflow_mul-places : goal.overflow_mul-places
overflow_mul-places c =
    let k = accepts c.in_ok-counts.was c.check.ensures in
    omega (arith, mul-le-mul c.requires (rw (← k.lines) at k.good.most_lines))

pub check_rest-requires : goal.check_rest-requires
check_rest-requires c =
    let k = accepts c.in_ok-counts.was c.check.ensures in
    omega (arith, k.inputs, k.good.some_inputs)

pub returns-in_err-counts : goal.returns-in_err-counts
returns-in_err-counts c = rw (handed_on c.from_residual.ensures.1) (circuit_refused (refuses c.in_err-counts.was c.check.ensures))

pub returns-in_err-check_rest : goal.returns-in_err-check_rest
returns-in_err-check_rest c =
    rw (handed_on c.from_residual-in_err-check_rest.ensures.1)
    (rest_refused (accepts c.in_ok-counts.was c.check.ensures) (sym c.check_rest.ensures ∙ c.in_err-check_rest.was))

pub returns : goal.returns
returns c = all_fine (accepts c.in_ok-counts.was c.check.ensures) (sym c.check_rest.ensures ∙ c.in_ok-check_rest.was)

-- `dictionary::check_rest` meets its contract: a refusal of the lists is handed on, else the buffers decide.
-- Assumes nothing.
use mathlib.Core.Path.{sym, ◌∙◌}
use native.Mathlib.Nat.{mul-le-mul}
use native.Mathlib.Omega.{arith}
use Rattle.lists.specs.Both.{list_rules}
use Rattle.lists.proofs.Both.{lists_few}
use Rattle.answers.proofs.Rules.{after_refused, after_fine}
use Rattle.answers.proofs.Answer.{handed_on}
use Rattle.dictionary.proofs.check_rest.Goals as goal

pub overflow_mul-f : goal.overflow_mul-f
overflow_mul-f c =
    let few = lists_few c.args.circuit.now c.args.inputs c.args.faults.now c.args.patterns.now (sym c.check_lists.ensures ∙ c.in_ok-check_lists.was) in
    omega (arith, mul-le-mul few.0 few.1)

pub returns-in_err-check_lists : goal.returns-in_err-check_lists
returns-in_err-check_lists c = handed_on c.from_residual.ensures.1 ∙ sym
    (after_refused (list_rules c.args.circuit.now c.args.inputs c.args.faults.now c.args.patterns.now) _
    (sym c.check_lists.ensures ∙ c.in_err-check_lists.was))

pub returns : goal.returns
returns c = c.check_lent.ensures
    ∙ sym
    (after_fine (list_rules c.args.circuit.now c.args.inputs c.args.faults.now c.args.patterns.now) _
    (sym c.check_lists.ensures ∙ c.in_ok-check_lists.was))

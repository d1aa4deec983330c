-- `states::check_steps` meets its contract: the steps, then the records, then the sizes decide.
-- Assumes nothing.
use mathlib.Core.Path.{◌≡◌, sym, ◌∙◌}
use mathlib.Core.Bool.{true}
use Prim.Native.Nat.{ℕ, ◌*◌, ◌-◌, ◌≤◌}
use native.Mathlib.Omega.{arith}
use borrow.Author.Tests.{not-true, not-false}
use Rattle.answers.proofs.Answer.{handed_on}
use Rattle.states.specs.Owed.{steps_ok}
use Rattle.states.proofs.Steps.{some_steps, small_lines, small_inputs, steps_refused, states_refused, sizes_decide}
use Rattle.states.proofs.check_steps.Goals as goal
use Rattle.states.proofs.check_steps.Goals.{Else-not-steps_ok}

some : (c : Else-not-steps_ok) → steps_ok c.args.steps ≡ true
some c = sym c.steps_ok.ensures ∙ not-false _ c.if-not-steps_ok.false-raw

few_lines : (c : Else-not-steps_ok) → c.args.n ≤ 2048
few_lines c = omega (arith, c.requires.lines, c.requires.good.most_lines)

free-small : (c : Else-not-steps_ok) {free : ℕ} → free ≤ c.args.n → (c.args.steps - 1) * free ≤ 16384
free-small c {free} l = small_inputs c.args.steps free (some_steps _ (some c)).1 (omega (arith, few_lines c))

pub returns-then-not-steps_ok : goal.returns-then-not-steps_ok
returns-then-not-steps_ok c = steps_refused _ _ _ _ _ (sym c.steps_ok.ensures ∙ not-true _ c.if-not-steps_ok.true-raw)

pub overflow_mul-steps : goal.overflow_mul-steps
overflow_mul-steps c =
    omega (arith, small_lines c.args.steps c.args.n (some_steps _ (some (goal.at.overflow_mul-steps c).Else-not-steps_ok)).1 (few_lines (goal.at.overflow_mul-steps c).Else-not-steps_ok))

pub overflow_sub-steps : goal.overflow_sub-steps
overflow_sub-steps c = (some_steps _ (some (goal.at.overflow_sub-steps c).Else-not-steps_ok)).0

pub overflow_mul-steps-2 : goal.overflow_mul-steps-2
overflow_mul-steps-2 c = omega (arith, free-small (goal.at.overflow_mul-steps-2 c).Else-not-steps_ok c.free_inputs-free.ensures.1)

pub overflow_add-inputs : goal.overflow_add-inputs
overflow_add-inputs c =
    omega (arith, free-small (goal.at.overflow_add-inputs c).Else-not-steps_ok c.free_inputs-free.ensures.1, c.requires.inputs, c.requires.good.most_inputs)

pub returns-in_err-check_states : goal.returns-in_err-check_states
returns-in_err-check_states c =
    handed_on c.from_residual.ensures.1
    ∙ states_refused _ _ _ _ _ (some (goal.at.returns-in_err-check_states c).Else-not-steps_ok) (sym c.check_states.ensures ∙ c.in_err-check_states.was)

pub returns : goal.returns
returns c =
    sizes_decide _ _ _ _ _ (some (goal.at.returns c).Else-not-steps_ok) c.requires c.free_inputs-free.ensures.0 (sym c.check_states.ensures ∙ c.in_ok-check_states.was)
    c.sized.ensures

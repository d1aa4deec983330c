-- The clocked circuit over Booleans, defined on its own.
-- Assumes nothing.
use Rattle.std.specs.Prelude.{Bool, false, List, ℕ, zero, suc, get_or}
use Rattle.ground.specs.Choose.{choose}
use Rattle.ground.specs.Lists.{grow}
use Rattle.circuit.specs.Record.{is_input}
use Rattle.simulate.specs.Boolean.{Truths, gate_truth}
use Rattle.states.specs.States.{is_state, data_of}

-- what is put on the input at line m in step i
abbrev pub GivenTruths : Type 0
GivenTruths = ℕ → ℕ → Bool

abbrev pub step_truths : Truths → List ℕ → ℕ → (ℕ → Bool) → List Bool
step_truths f c n x = grow (λ ts k. f k 0 (choose (is_input c k) (x k) (gate_truth f c ts k))) n

abbrev pub next_truths : List ℕ → List Bool → (ℕ → Bool) → ℕ → Bool
next_truths st ts x m = choose (is_state st m) (get_or ts (data_of st m) false) (x m)

-- the truths in step i, after i clocks
unfoldable pub clocked_truths : Truths → List ℕ → List ℕ → ℕ → GivenTruths → ℕ → List Bool
clocked_truths f c st n x zero = step_truths f c n (x 0)
clocked_truths f c st n x (suc i) = step_truths f c n (next_truths st (clocked_truths f c st n x i) (x (suc i)))

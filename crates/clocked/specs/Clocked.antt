-- A clocked circuit, on its own: the values of each step come from the inputs of the step and the state, and the state of the next step from the data lines.
-- Of a circuit c with n lines and the state records st, in which something may force values, in each step the same. Steps are counted from 0.
-- Assumes nothing.
use Rattle.std.specs.Prelude.{List, ℕ, zero, suc, get_or}
use Rattle.ground.specs.Choose.{choose}
use Rattle.ground.specs.Lists.{grow}
use Rattle.circuit.specs.Record.{is_input}
use Rattle.simulate.specs.Simulate.{Forcing, gate_value}
use Rattle.states.specs.States.{is_state, data_of}

-- what is put on the input at line m in step i. A state line is put on in the first step alone: that is the state in which the circuit starts
abbrev pub Given : Type 0
Given = ℕ → ℕ → ℕ

-- one step: the values of all lines, where the input at line k has x k
abbrev pub step_values : Forcing → List ℕ → ℕ → (ℕ → ℕ) → List ℕ
step_values f c n x = grow (λ vs k. f k 0 (choose (is_input c k) (x k) (gate_value f c vs k))) n

-- the next step, after one with the values vs: a state line has what its data line had, every other input what is put on it
abbrev pub next_inputs : List ℕ → List ℕ → (ℕ → ℕ) → ℕ → ℕ
next_inputs st vs x m = choose (is_state st m) (get_or vs (data_of st m) 0) (x m)

-- the values in step i, after i clocks
unfoldable pub clocked_values : Forcing → List ℕ → List ℕ → ℕ → Given → ℕ → List ℕ
clocked_values f c st n x zero = step_values f c n (x 0)
clocked_values f c st n x (suc i) = step_values f c n (next_inputs st (clocked_values f c st n x i) (x (suc i)))

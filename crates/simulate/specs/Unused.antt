-- Simulation by some other table of the kinds, to say which values of the table are never used.
-- Assumes nothing.
use Rattle.std.specs.Prelude.{◌≡◌, List, ℕ, ◌≤◌, get_or}
use Rattle.ground.specs.Choose.{choose}
use Rattle.ground.specs.Lists.{grow}
use Rattle.gates.specs.Gate.{X, gate_table, value_by}
use Rattle.circuit.specs.Record.{kind_at, pin_at, is_input, inputs_before}
use Rattle.simulate.specs.Simulate.{Forcing}

-- the values of the first n lines where the gates go by this table; by `gate_table` they are those of `values_to`
abbrev pub values_by : List ℕ → Forcing → List ℕ → List ℕ → ℕ → List ℕ
values_by values f c p n = grow (λ vs k. f k 0 (choose (is_input c k) (get_or p (inputs_before c k) 0) (value_by values (kind_at c k) (λ s. f k s (get_or vs (pin_at c k s) 0))))) n

-- the same as the table of the gates but for an input's values, the first nine, which may be any
abbrev pub SameButForInputs : List ℕ → Type 0
SameButForInputs values = (place : ℕ) → 9 ≤ place → get_or values place X ≡ get_or gate_table place X

-- The circuit unfolded over k steps, counted from 0 as the lines are: line m of step i is line i N + m, where N lines make a step.
-- Assumes nothing.
use Rattle.std.specs.Prelude.{Bool, ◌&&◌, List, ◌∷◌, ◌++◌, ℕ, suc, ◌+◌, ◌*◌, ◌-◌, ◌/◌, ◌%◌, eqb, leb}
use Rattle.ground.specs.Choose.{choose}
use Rattle.ground.specs.Lists.{gather}
use Rattle.little.specs.Little.{le}
use Rattle.gates.specs.Gate.{pins_of}
use Rattle.circuit.specs.Record.{lines_of, kind_at, out_at, pin_at}
use Rattle.states.specs.States.{is_state, data_of, is_data}
use Rattle.states.specs.Rules.{lines_after}

abbrev pub buffer : ℕ
buffer = 1

-- line m has in step i what its data line had a step earlier
abbrev pub holds : List ℕ → ℕ → ℕ → Bool
holds st i m = leb 1 i && is_state st m

unfoldable pub step_kind : List ℕ → List ℕ → ℕ → ℕ → ℕ
step_kind c st i m = choose (holds st i m) buffer (kind_at c m)

-- outputs stay, and the data lines of the last step become outputs
unfoldable pub step_out : List ℕ → List ℕ → ℕ → ℕ → ℕ → ℕ
step_out c st k i m = choose (eqb (suc i) k && is_data st m) 1 (out_at c m)

-- a pin that the kind has reads the same line as in the circuit, of its own step; a state line of a later step its data line, one step earlier
unfoldable pub step_pin : List ℕ → List ℕ → ℕ → ℕ → ℕ → ℕ
step_pin c st i m s =
    choose (holds st i m)
    (choose (eqb s 1) ((i - 1) * lines_of c + data_of st m) 0)
    (choose (leb s (pins_of (kind_at c m))) (i * lines_of c + pin_at c m s) 0)

unfoldable pub step_record : List ℕ → List ℕ → ℕ → ℕ → ℕ → List ℕ
step_record c st k i m =
    step_kind c st i m ∷ step_out c st k i m ∷ (le 2 (step_pin c st i m 1) ++ (le 2 (step_pin c st i m 2) ++ le 2 (step_pin c st i m 3)))

-- the first l lines
unfoldable pub unfolded_to : List ℕ → List ℕ → ℕ → ℕ → List ℕ
unfolded_to c st k l = gather (λ j. step_record c st k (j / lines_of c) (j % lines_of c)) l

abbrev pub unfolded : List ℕ → List ℕ → ℕ → List ℕ
unfolded c st k = unfolded_to c st k (lines_after c k)

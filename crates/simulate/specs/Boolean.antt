-- What a complete input vector does, over Bool and on its own: good and faulty truths, and when a vector detects a fault.
-- Assumes nothing.
use Rattle.std.specs.Prelude.{◌≡◌, Bool, true, false, List, ℕ, ◌<◌, ◌%◌, eqb, get_or}
use Rattle.ground.specs.Choose.{choose}
use Rattle.ground.specs.Lists.{grow}
use Rattle.gates.specs.Boolean.{bool_gate}
use Rattle.circuit.specs.Record.{kind_at, pin_at, is_input, is_output, inputs_before}
use Rattle.lists.specs.declared.Fault.{Fault}
use Rattle.lists.specs.Faults.{is_at}

-- the value of each input, by its number
abbrev pub Vector : Type 0
Vector = ℕ → Bool

-- line, site and the truth there, to the truth that is seen there
abbrev pub Truths : Type 0
Truths = ℕ → ℕ → Bool → Bool

abbrev pub good : Truths
good line site b = b

unfoldable pub faulty : Fault → Truths
faulty fault line site b = choose (is_at fault line site) (eqb fault.value 1) b

-- in every step of a circuit that has so many lines a step
unfoldable pub truths_in_steps : ℕ → Truths → Truths
truths_in_steps step f line site b = f (line % step) site b

unfoldable pub gate_truth : Truths → List ℕ → List Bool → ℕ → Bool
gate_truth f c ts k = bool_gate (kind_at c k) (λ s. f k s (get_or ts (pin_at c k s) false))

unfoldable pub line_truth : Truths → List ℕ → Vector → List Bool → ℕ → Bool
line_truth f c x ts k = f k 0 (choose (is_input c k) (x (inputs_before c k)) (gate_truth f c ts k))

-- the truths of the first n lines, each after those below it
abbrev pub truths_to : Truths → List ℕ → Vector → ℕ → List Bool
truths_to f c x n = grow (line_truth f c x) n

-- the truth of line k of a circuit of n lines
abbrev pub truth_at : Truths → List ℕ → Vector → ℕ → ℕ → Bool
truth_at f c x n k = get_or (truths_to f c x n) k false

-- at some output good and faulty differ
pub record Detects (c : List ℕ) (fault : Fault) (n : ℕ) (x : Vector) : Type 0 where
  pub line : ℕ
  pub inside : line < n
  pub output : is_output c line ≡ true
  pub differ : truth_at good c x n line ≡ truth_at (faulty fault) c x n line → ⊥

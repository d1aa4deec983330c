-- A clocked circuit over k steps: the refusals 21, 18 and 19, which come after those of the circuit.
-- Assumes nothing.
use Rattle.std.specs.Prelude.{◌≡◌, Bool, not, ◌&&◌, List, [], ◌∷◌, ◌++◌, ℕ, ◌+◌, ◌*◌, ◌-◌, ◌≤◌, ◌<◌, ◌%◌, eqb, leb, ltb, length}
use Rattle.ground.specs.Below.{any_below}
use Rattle.answers.specs.Rules.{Rule}
use Rattle.answers.specs.Rules.Rule.{whole, each}
use Rattle.circuit.specs.Record.{kind_at, is_input, lines_of, inputs_of}
use Rattle.circuit.specs.Promise.{circuit_rules}
use Rattle.answers.specs.declared.Reason.TheVariants.{StateRecords, UnfoldedSize, StepCount}
use Rattle.states.specs.declared.Clocked.{Clocked}
use Rattle.states.specs.States.{state_count, data_line, state_line, free_of}

-- a record as a test
unfoldable pub state_ok : List ℕ → List ℕ → ℕ → Bool
state_ok c st r =
    ltb (data_line st r) (lines_of c)
    && (ltb (state_line st r) (lines_of c)
    && (is_input c (state_line st r) && not (any_below r (λ q. eqb (state_line st q) (state_line st r)))))

-- and in words: both lines are there, the state line is an input, and no earlier record has the same state line
pub record StateLayout (c st : List ℕ) (r : ℕ) : Type 0 where
  pub data_inside : data_line st r < lines_of c
  pub state_inside : state_line st r < lines_of c
  pub input : kind_at c (state_line st r) ≡ 0
  pub once : (q : ℕ) → q < r → state_line st q ≡ state_line st r → ⊥

-- the lines after unfolding over k steps; and the inputs: all in the first step, the free ones in each later step
abbrev pub lines_after : List ℕ → ℕ → ℕ
lines_after c k = k * lines_of c

abbrev pub inputs_after : List ℕ → List ℕ → ℕ → ℕ
inputs_after c st k = inputs_of c + (k - 1) * free_of c st

-- whole records, each of which keeps its layout
unfoldable pub state_rules : List ℕ → List ℕ → List Rule
state_rules c st =
    whole StateRecords (eqb (length st % 4) 0) (length st ≡ 4 * state_count st) 0
    ∷ each StateRecords (state_count st) (state_ok c st) (StateLayout c st)
    ∷ []

-- not more than 2,048 lines and 64 inputs
unfoldable pub after_rules : ℕ → ℕ → List Rule
after_rules lines inputs = whole UnfoldedSize (leb lines 2048 && leb inputs 64) ((lines ≤ 2048) × (inputs ≤ 64)) 0 ∷ []

-- 1 to 8 steps; the records; the sizes after unfolding
unfoldable pub step_rules : List ℕ → List ℕ → ℕ → List Rule
step_rules c st k = whole StepCount (leb 1 k && leb k 8) ((1 ≤ k) × (k ≤ 8)) 0 ∷ (state_rules c st ++ after_rules (lines_after c k) (inputs_after c st k))

-- all that is checked of a clocked circuit
abbrev pub clocked_rules : List ℕ → List ℕ → ℕ → List Rule
clocked_rules c st k = circuit_rules c ++ step_rules c st k

-- so many lines in a step, so many inputs after unfolding
abbrev pub clocked_are : ℕ → ℕ → Clocked
clocked_are n m = record { lines = n; inputs = m }

-- what holds where nothing of it is refused
pub record GoodSteps (c st : List ℕ) (k : ℕ) : Type 0 where
  pub some_steps : 1 ≤ k
  pub most_steps : k ≤ 8
  pub records : length st ≡ 4 * state_count st
  pub layout : (r : ℕ) → r < state_count st → StateLayout c st r
  pub most_lines : lines_after c k ≤ 2048
  pub most_inputs : inputs_after c st k ≤ 64

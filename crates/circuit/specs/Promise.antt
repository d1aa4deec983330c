-- Part 1, the circuit check: the refusals 1, 2, 4 and 5, what it answers, and what it promises.
-- Assumes nothing.
use Rattle.std.specs.Prelude.{◌≡◌, List, [], ◌∷◌, ◌++◌, ℕ, ◌≤◌, ◌<◌, leb, length, Result}
use Rattle.ground.specs.Below.{all_below}
use Rattle.answers.specs.Rules.{Rule, refusal}
use Rattle.answers.specs.Rules.Rule.{whole}
use Rattle.answers.specs.Records.{records_ok, Records}
use Rattle.answers.specs.Area.{Numbers, success, in_numbers, told}
use Rattle.answers.specs.Answer.{answered}
use Rattle.circuit.specs.declared.Counts.{Counts}
use Rattle.circuit.specs.Record.{lines_of, inputs_of, outputs_of}
use Rattle.circuit.specs.Layout.{line_ok, Layout}
use Rattle.circuit.specs.BadByte.{bad_byte}
use Rattle.answers.specs.declared.Refusal.{Refusal}
use Rattle.answers.specs.declared.Reason.TheVariants.{CircuitSize, CircuitLayout, ManyInputs, NoOutput}

-- a multiple of 8 bytes, not empty, not above 2,048 records; each record keeps its layout, and of the first that does not the byte is told
unfoldable pub layout_rules : List ℕ → List Rule
layout_rules c =
    whole CircuitSize (records_ok 8 2048 (length c)) (Records 8 2048 (length c)) 0
    ∷ whole CircuitLayout (all_below (lines_of c) (line_ok c)) ((k : ℕ) → k < lines_of c → Layout c k) (bad_byte c)
    ∷ []

-- not more than 64 inputs, some output. No rule has the number 3: it stood for no input, and past 2 there always is one, line 0, below which there is no
-- line for a gate to read (`first_input`, `some-input` in proofs/FirstLine.antt)
unfoldable pub count_rules : ℕ → ℕ → List Rule
count_rules inputs outputs =
    whole ManyInputs (leb inputs 64) (inputs ≤ 64) 0
    ∷ whole NoOutput (leb 1 outputs) (1 ≤ outputs) 0
    ∷ []

abbrev pub circuit_rules : List ℕ → List Rule
circuit_rules c = layout_rules c ++ count_rules (inputs_of c) (outputs_of c)

-- so many lines, inputs and outputs
abbrev pub counts_are : ℕ → ℕ → ℕ → Counts
counts_are n m o = record { lines = n; inputs = m; outputs = o }

-- they are the answer where the counts are fine
abbrev pub counted_of : ℕ → ℕ → ℕ → Result Counts Refusal
counted_of n m o = answered (refusal (count_rules m o)) (counts_are n m o)

-- and where all is
unfoldable pub check_of : List ℕ → Result Counts Refusal
check_of c = answered (refusal (circuit_rules c)) (counts_are (lines_of c) (inputs_of c) (outputs_of c))

-- the paper's number and values for each case of the answer
abbrev pub counts_numbers : Counts → Numbers
counts_numbers a = success a.lines a.inputs a.outputs

unfoldable pub checked_numbers : Result Counts Refusal → Numbers
checked_numbers = in_numbers counts_numbers

-- the promise, whatever the bytes: the answer's case, and its number and values
pub record Checks (c : List ℕ) (r : Result Counts Refusal) : Type 0 where
  pub answer : r ≡ check_of c
  pub numbers : checked_numbers r ≡ told (refusal (circuit_rules c)) (success (lines_of c) (inputs_of c) (outputs_of c))

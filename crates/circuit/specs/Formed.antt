-- What a circuit is that the check accepts, in the words that callers use.
-- Assumes nothing.
use Rattle.std.specs.Prelude.{◌≡◌, List, ℕ, ◌*◌, ◌≤◌, ◌<◌, length, Ok}
use Rattle.answers.specs.Rules.{refusal}
use Rattle.gates.specs.Gate.{last_kind}
use Rattle.circuit.specs.Record.{kind_at, pin_at, lines_of, inputs_before, inputs_of, outputs_of}
use Rattle.circuit.specs.Promise.{circuit_rules}

-- the sources of line k are lower than it
abbrev pub Lower : List ℕ → ℕ → Type 0
Lower c k = (s : ℕ) → 1 ≤ s → s ≤ 3 → pin_at c k s < k

-- so many lines, so many of them inputs, every gate above its sources
pub record WellFormed (c : List ℕ) (inputs lines : ℕ) : Type 0 where
  pub size : length c ≡ 8 * lines
  pub kinds : (k : ℕ) → k < lines → kind_at c k ≤ last_kind
  pub lower : (k : ℕ) → k < lines → (kind_at c k ≡ 0 → ⊥) → Lower c k
  pub inputs_are : inputs_before c lines ≡ inputs

-- within the sizes, with an input and an output
pub record Good (c : List ℕ) : Type 0 where
  pub some_lines : 1 ≤ lines_of c
  pub most_lines : lines_of c ≤ 2048
  pub some_inputs : 1 ≤ inputs_of c
  pub most_inputs : inputs_of c ≤ 64
  pub some_outputs : 1 ≤ outputs_of c
  pub well : WellFormed c (inputs_of c) (lines_of c)

-- what the answer Accepted n m o says
pub record Accepts (c : List ℕ) (n m o : ℕ) : Type 0 where
  pub lines : n ≡ lines_of c
  pub inputs : m ≡ inputs_of c
  pub outputs : o ≡ outputs_of c
  pub fine : refusal (circuit_rules c) ≡ Ok tt
  pub good : Good c

-- an accepted circuit of n lines and m inputs: what a part's inner functions ask for
abbrev pub Known : List ℕ → ℕ → ℕ → Type 0
Known c n m = Accepts c n m (outputs_of c)

-- The promise of the dictionary maker in the paper's words; the record `Answered` is proved to say the same.
-- Assumes nothing.
use Rattle.std.specs.Prelude.{◌≡◌, List, ℕ, length, Ok, Err}
use Rattle.answers.specs.Rules.{Ruling}
use Rattle.answers.specs.Rules.{Applies}
use Rattle.circuit.specs.Record.{lines_of, inputs_of}
use Rattle.simulate.specs.Work.{both_of}
use Rattle.rows.specs.Table.{last_fault, last_pattern}
use Rattle.rows.specs.Words.{Made}
use Rattle.dictionary.specs.Promise.{dictionary_rules}
use Rattle.answers.specs.declared.Reason.{Reason}

-- of an engine with so many places for each line in the work memory, of which `Left` says what it is to hold
pub record EngineWords (places : ℕ) (Left : List ℕ → Type 0) (c fs ps t w : List ℕ) (r : Ruling) (t' w' : List ℕ) : Type 0 where
  -- refused exactly when a rule applies, with the first that does and its lowest place
  pub refused : (reason : Reason) (place : ℕ) → r ≡ Err (reason, place) → Applies (dictionary_rules places c fs ps (length t) (length w)) reason place
  pub refuses : (reason : Reason) (place : ℕ) → Applies (dictionary_rules places c fs ps (length t) (length w)) reason place → r ≡ Err (reason, place)
  -- a refusal writes nothing
  pub nothing : (reason : Reason) (place : ℕ) → r ≡ Err (reason, place) → (t' ≡ t) × (w' ≡ w)
  -- otherwise the dictionary is made
  pub made : r ≡ Ok tt → Made c (lines_of c) (inputs_of c) fs ps t' × Left w'

-- good, then faulty values of the last pattern with the last fault
abbrev pub LeftBoth : List ℕ → List ℕ → List ℕ → List ℕ → Type 0
LeftBoth c fs ps w = w ≡ both_of (last_fault fs) c (last_pattern (inputs_of c) ps) (lines_of c)

abbrev pub InWords : List ℕ → List ℕ → List ℕ → List ℕ → List ℕ → Ruling → List ℕ → List ℕ → Type 0
InWords c fs ps t w r t' w' = EngineWords 2 (LeftBoth c fs ps) c fs ps t w r t' w'

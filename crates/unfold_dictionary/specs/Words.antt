-- The promise in the words of the clocked circuit, which is not unfolded; `StepsDictionary` is proved to say the same. Steps are counted from 0.
-- Assumes nothing.
use Rattle.std.specs.Prelude.{◌≡◌, ◌⊎◌, List, ◌++◌, ℕ, suc, ◌+◌, ◌*◌, ◌<◌, length, get_or, Ok, Err}
use Rattle.ground.specs.Lists.{gather}
use Rattle.answers.specs.Rules.{Ruling}
use Rattle.answers.specs.Rules.{Applies}
use Rattle.circuit.specs.Record.{lines_of, out_at}
use Rattle.lists.specs.declared.Fault.{Fault}
use Rattle.lists.specs.Faults.{fault_count, fault_at}
use Rattle.lists.specs.Patterns.{pattern_count, pattern_at}
use Rattle.simulate.specs.Simulate.{Forcing, unforced, stuck_at}
use Rattle.entry.specs.Words.{Differ, AsExpected, Chosen}
use Rattle.rows.specs.Table.{last_fault, last_pattern}
use Rattle.states.specs.Rules.{inputs_after}
use Rattle.unfolded.specs.Words.{DataLine}
use Rattle.clocked.specs.Clocked.{clocked_values}
use Rattle.clocked.specs.Inputs.{given_by}
use Rattle.unfold_dictionary.specs.Promise.{steps_dictionary_rules}
use Rattle.answers.specs.declared.Reason.{Reason}

-- line m is looked at in step i of k: an output in every step, a data line in the last
pub record LookedIn (c st : List ℕ) (k i m : ℕ) : Type 0 where
  pub step : i < k
  pub line : m < lines_of c
  pub looked : (out_at c m ≡ 1) ⊎ ((suc i ≡ k) × DataLine st m)

-- the values of step i of the clocked circuit under the pattern p, where f is forced
abbrev pub values_in : Forcing → List ℕ → List ℕ → List ℕ → ℕ → List ℕ
values_in f c st p = clocked_values f c st (lines_of c) (given_by c st p)

-- P holds of the good and the faulty value of line m in step i
abbrev pub ThereHolds : (ℕ → ℕ → Type 0) → Fault → List ℕ → List ℕ → List ℕ → ℕ → ℕ → Type 0
ThereHolds P fault c st p i m = P (get_or (values_in unforced c st p i) m 0) (get_or (values_in (stuck_at fault) c st p i) m 0)

-- fail if somewhere good and faulty value are known and differ; pass if everywhere the faulty value is as expected; otherwise unknown
abbrev pub StepsEntry : Fault → List ℕ → List ℕ → ℕ → List ℕ → ℕ → Type 0
StepsEntry fault c st k p e =
    Chosen ((i m : ℕ) × LookedIn c st k i m × ThereHolds Differ fault c st p i m) ((i m : ℕ) → LookedIn c st k i m → ThereHolds AsExpected fault c st p i m) e

-- one row per pattern, one entry per fault in the row
pub record StepsMade (c st : List ℕ) (k : ℕ) (fs ps t : List ℕ) : Type 0 where
  pub size : length t ≡ fault_count fs * pattern_count (inputs_after c st k) ps
  pub entry : (i j : ℕ) → i < pattern_count (inputs_after c st k) ps → j < fault_count fs
      → StepsEntry (fault_at fs j) c st k (pattern_at (inputs_after c st k) ps i) (get_or t (i * fault_count fs + j) 0)

-- the values of all steps, one after the other: good, then faulty
abbrev pub StepsLeft : List ℕ → List ℕ → ℕ → List ℕ → List ℕ → List ℕ → Type 0
StepsLeft c st k fs ps w =
    w ≡ gather (values_in unforced c st (last_pattern (inputs_after c st k) ps)) k ++ gather (values_in (stuck_at (last_fault fs)) c st (last_pattern (inputs_after c st k) ps)) k

pub record StepsInWords (c st : List ℕ) (k : ℕ) (fs ps t w : List ℕ) (r : Ruling) (t' w' : List ℕ) : Type 0 where
  -- refused exactly when a rule applies, with the first that does and its lowest place
  pub refused : (reason : Reason) (place : ℕ) → r ≡ Err (reason, place) → Applies (steps_dictionary_rules c st k fs ps (length t) (length w)) reason place
  pub refuses : (reason : Reason) (place : ℕ) → Applies (steps_dictionary_rules c st k fs ps (length t) (length w)) reason place → r ≡ Err (reason, place)
  -- a refusal writes nothing
  pub nothing : (reason : Reason) (place : ℕ) → r ≡ Err (reason, place) → (t' ≡ t) × (w' ≡ w)
  -- otherwise the dictionary is made
  pub made : r ≡ Ok tt → StepsMade c st k fs ps t' × StepsLeft c st k fs ps w'

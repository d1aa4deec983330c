-- What an entry of the dictionary over several steps says about complete input vectors of the clocked circuit. Steps are counted from 0.
-- Assumes nothing.
use Rattle.std.specs.Prelude.{◌≡◌, ◌↔◌, Bool, false, List, ℕ, ◌<◌, get_or}
use Rattle.circuit.specs.Record.{lines_of}
use Rattle.lists.specs.declared.Fault.{Fault}
use Rattle.simulate.specs.Simulate.{unforced}
use Rattle.simulate.specs.Boolean.{Vector, Truths, good, faulty}
use Rattle.simulate.specs.Vectors.{NoX, Fills}
use Rattle.tables.specs.Entries.{pass, fail, unknown}
use Rattle.clocked.specs.Boolean.{clocked_truths}
use Rattle.clocked.specs.Inputs.{truths_by}
use Rattle.unfold_dictionary.specs.Words.{LookedIn, values_in}

-- the truth of line m in step i under the vector x
abbrev pub truth_in : Truths → List ℕ → List ℕ → Vector → ℕ → ℕ → Bool
truth_in t c st x i m = get_or (clocked_truths t c st (lines_of c) (truths_by c st x) i) m false

-- good and faulty truth there are equal
abbrev pub EqualThere : List ℕ → List ℕ → Fault → Vector → ℕ → ℕ → Type 0
EqualThere c st fault x i m = truth_in good c st x i m ≡ truth_in (faulty fault) c st x i m

-- the vector x detects the fault over k steps: at some line that is looked at in some step they differ
pub record DetectsInSteps (c st : List ℕ) (fault : Fault) (k : ℕ) (x : Vector) : Type 0 where
  pub step : ℕ
  pub line : ℕ
  pub looked : LookedIn c st k step line
  pub differ : EqualThere c st fault x step line → ⊥

-- line m is compared in step i: it is looked at, and its good value under the pattern p itself is known
pub record ComparedThere (c st p : List ℕ) (k i m : ℕ) : Type 0 where
  pub looked : LookedIn c st k i m
  pub known : get_or (values_in unforced c st p i) m 0 < 2

-- the pattern p exposes the fault: under every filling of its X's good and faulty truth differ, at one and the same compared line and step
pub record ExposesInSteps (c st : List ℕ) (fault : Fault) (k : ℕ) (p : List ℕ) : Type 0 where
  pub step : ℕ
  pub line : ℕ
  pub compared : ComparedThere c st p k step line
  pub differ : (x : Vector) → Fills p x → EqualThere c st fault x step line → ⊥

-- the pattern p clears the fault: under no filling does a compared line differ in its step
abbrev pub ClearsInSteps : List ℕ → List ℕ → Fault → ℕ → List ℕ → Type 0
ClearsInSteps c st fault k p = (x : Vector) → Fills p x → (i m : ℕ) → ComparedThere c st p k i m → EqualThere c st fault x i m

-- e, as the entry of the pattern p and a fault over k steps
pub record StepsMean (e : ℕ) (c st : List ℕ) (fault : Fault) (k : ℕ) (p : List ℕ) : Type 0 where
  -- where the entry is fail, every filling of the X's detects the fault, and more: at one and the same compared line and step
  pub each_detects : e ≡ fail → (x : Vector) → Fills p x → DetectsInSteps c st fault k x
  pub exposes : e ≡ fail → ExposesInSteps c st fault k p
  -- where it is pass, under no filling does a compared line differ
  pub clears : e ≡ pass → ClearsInSteps c st fault k p
  -- a pattern without X never gives unknown, and its entry is pass exactly if it does not detect the fault
  pub decided : NoX p → e ≡ unknown → ⊥
  pub undetected : NoX p → (x : Vector) → Fills p x → (e ≡ pass) ↔ (DetectsInSteps c st fault k x → ⊥)

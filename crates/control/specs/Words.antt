-- The promise of the chances in the words of the request and of paper 001; the record `Controls` is proved to say the same.
-- Assumes nothing.
use Rattle.std.specs.Prelude.{◌≡◌, Bool, true, false, List, ℕ, ◌<◌, T, Float, length, get_or, Ok, Err}
use Rattle.std.specs.Float.{nan, binary64}
use Rattle.std.specs.Float.Ieee.{fits}
use Rattle.std.specs.Float.Ieee.Exact.{HasValue}
use Rattle.answers.specs.Rules.{Ruling}
use Rattle.answers.specs.Rules.{Applies}
use Rattle.circuit.specs.Record.{lines_of}
use Rattle.exponents.specs.Fraction.{Fraction}
use Rattle.exponents.specs.Words.{Measures}
use Rattle.control.specs.Promise.{control_rules}
use Rattle.answers.specs.declared.Reason.{Reason}

-- x is an f64, and exactly the number p
pub record Exactly (x : Float) (p : Fraction) : Type 0 where
  pub float : T (fits binary64 x)
  pub value : HasValue x false p.top p.bottom

-- a float a line: the chance of value v
pub record ChancesAre (c : List ℕ) (v : Bool) (chance : ℕ → Bool → Fraction) (chances : List Float) : Type 0 where
  pub long : length chances ≡ lines_of c
  pub are : (k : ℕ) → k < lines_of c → Exactly (get_or chances k nan) (chance k v)

pub record ControlInWords (c : List ℕ) (ones zeros : List Float) (r : Ruling) (ones' zeros' : List Float) : Type 0 where
  -- refused exactly when a rule applies, with the first that does and its lowest place
  pub refused : (reason : Reason) (place : ℕ) → r ≡ Err (reason, place) → Applies (control_rules c (length ones) (length zeros)) reason place
  pub refuses : (reason : Reason) (place : ℕ) → Applies (control_rules c (length ones) (length zeros)) reason place → r ≡ Err (reason, place)
  -- a refusal writes nothing
  pub nothing : (reason : Reason) (place : ℕ) → r ≡ Err (reason, place) → (ones' ≡ ones) × (zeros' ≡ zeros)
  -- otherwise each float is exactly the chance that the rules give
  pub made : r ≡ Ok tt
      → (chance : ℕ → Bool → Fraction) (at : ℕ → ℕ → Bool → Fraction)
      → Measures c (lines_of c) chance at
      → ChancesAre c true chance ones' × ChancesAre c false chance zeros'

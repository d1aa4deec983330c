-- How hard each line is to set, as a part: the refusals 1, 2, 4, 5 and 10, and what is promised.
-- Assumes nothing.
use Rattle.std.specs.Prelude.{◌≡◌, Bool, true, false, List, ◌++◌, ℕ, Float, length}
use Rattle.ground.specs.Lists.{table}
use Rattle.answers.specs.Rules.{Ruling}
use Rattle.answers.specs.Rules.{Rule, refusal, unless}
use Rattle.answers.specs.Lent.{lent_rules}
use Rattle.answers.specs.Area.{told, done}
use Rattle.circuit.specs.Record.{lines_of}
use Rattle.circuit.specs.Promise.{circuit_rules}
use Rattle.halves.specs.Half.{half}
use Rattle.exponents.specs.Lines.{exponents}

-- all that is checked: the circuit, then that each buffer has one chance a line
abbrev pub control_rules : List ℕ → ℕ → ℕ → List Rule
control_rules c ones zeros = circuit_rules c ++ lent_rules (lines_of c) ones (lines_of c) zeros

-- what they say of the buffers that are lent
abbrev pub control_ruling : List ℕ → List Float → List Float → Ruling
control_ruling c ones zeros = refusal (control_rules c (length ones) (length zeros))

-- the chance of value v at each line: one half to the power of its exponent
unfoldable pub chances_of : List ℕ → Bool → List Float
chances_of c v = table (λ k. half (exponents c (lines_of c) k v)) (lines_of c)

-- the promise, whatever the bytes, where `ones` and `zeros` were lent, and r, ones' and zeros' come back: the answer, its number and values, and every float
pub record Controls (c : List ℕ) (ones zeros : List Float) (r : Ruling) (ones' zeros' : List Float) : Type 0 where
  pub answer : r ≡ control_ruling c ones zeros
  pub numbers : told r done ≡ told (control_ruling c ones zeros) done
  pub ones_are : ones' ≡ unless (control_ruling c ones zeros) ones (chances_of c true)
  pub zeros_are : zeros' ≡ unless (control_ruling c ones zeros) zeros (chances_of c false)

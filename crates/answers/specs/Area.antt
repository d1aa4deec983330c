-- An answer in numbers, and the 32 bytes of the answer area: four numbers, eight little-endian bytes each.
-- Assumes nothing.
use Rattle.std.specs.Prelude.{◌≡◌, List, ◌++◌, ℕ, eqb, length, Result, Ok, Err}
use Rattle.ground.specs.Choose.{choose}
use Rattle.little.specs.Little.{le}
use Rattle.answers.specs.declared.Reason.{Reason}
use Rattle.answers.specs.declared.Reason.TheVariants.{CircuitSize, CircuitLayout, ManyInputs, NoOutput, FaultsSize, FaultLayout, PatternsSize, PatternByte, BufferSize, NoRoom, TableSize, TableByte, BenchSyntax, BenchName, BenchCycle, NoPattern, StateRecords, UnfoldedSize, StepCount, NotOpened}
use Rattle.answers.specs.declared.Refusal.{Refusal}
use Rattle.answers.specs.Rules.{Ruling}

pub record Four : Type 0 where
  pub first : ℕ
  pub second : ℕ
  pub third : ℕ
  pub fourth : ℕ

unfoldable pub area_of : Four → List ℕ
area_of w = le 8 w.first ++ le 8 w.second ++ le 8 w.third ++ le 8 w.fourth

-- the numbers of the refusals
abbrev pub number_of : Reason → ℕ
number_of CircuitSize = 1
number_of CircuitLayout = 2
number_of ManyInputs = 4
number_of NoOutput = 5
number_of FaultsSize = 6
number_of FaultLayout = 7
number_of PatternsSize = 8
number_of PatternByte = 9
number_of BufferSize = 10
number_of NoRoom = 11
number_of TableSize = 12
number_of TableByte = 13
number_of BenchSyntax = 14
number_of BenchName = 15
number_of BenchCycle = 16
number_of NoPattern = 17
number_of StateRecords = 18
number_of UnfoldedSize = 19
number_of StepCount = 21
number_of NotOpened = 22

-- an answer in the paper's numbers: the refusal's number or 0, and the values, unused ones 0
pub record Numbers : Type 0 where
  pub number : ℕ
  pub values : Four

abbrev pub success : ℕ → ℕ → ℕ → Numbers
success a b c = record { number = 0; values = record { first = a; second = b; third = c; fourth = 0 } }

abbrev pub refused_at : ℕ → ℕ → Numbers
refused_at number place = record { number = number; values = record { first = place; second = 0; third = 0; fourth = 0 } }

-- those of a part's answer, where `good` gives the numbers of its good case
abbrev pub in_numbers : {A : Type 0} → (A → Numbers) → Result A Refusal → Numbers
in_numbers good (Ok a) = good a
in_numbers good (Err why) = refused_at (number_of why.0) why.1

-- and by what the rules say, where s are those of success
abbrev pub told : Ruling → Numbers → Numbers
told v s = in_numbers (λ u. s) v

-- those of a part that answers only that it is done
abbrev pub done : Numbers
done = success 0 0 0

-- what C gets of an answer, where the area held a: another size than 32 gives 10, before all else, and the area stays
pub record Entered (a : List ℕ) (answer : Numbers) (r : ℕ) (a' : List ℕ) : Type 0 where
  pub number : r ≡ choose (eqb (length a) 32) answer.number 10
  pub bytes : a' ≡ choose (eqb (length a) 32) (area_of answer.values) a

-- and of lent memory: with an area of another size nothing is written at all
abbrev pub entered {ℓ} : {A : Type ℓ} → List ℕ → A → A → A
entered a old new = choose (eqb (length a) 32) new old

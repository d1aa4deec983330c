-- The names of a text's lines: the refusals, what is answered, and what the lent places hold afterwards.
-- Assumes nothing.
use Rattle.std.specs.Prelude.{◌≡◌, List, [], ◌∷◌, ◌++◌, ℕ, length, Result}
use Rattle.ground.specs.Put.{laid_on}
use Rattle.answers.specs.Rules.{Rule, refusal, unless}
use Rattle.answers.specs.Answer.{answered}
use Rattle.answers.specs.Area.{success, told}
use Rattle.answers.specs.Lent.{exact}
use Rattle.circuit.specs.Record.{lines_of}
use Rattle.nets.specs.Rules.{buffer_bytes}
use Rattle.texts.specs.Text.{places_in}
use Rattle.bench.specs.Promise.{bench_rules, records_in, read_numbers}
use Rattle.answers.specs.declared.Refusal.{Refusal}

-- as many places as the largest circuit has lines
abbrev pub place_count : ℕ
place_count = 2048

unfoldable pub place_count_rules : ℕ → List Rule
place_count_rules room = exact place_count room ∷ []

-- those of the reader, whose buffer has its size, then 10
abbrev pub place_rules : List ℕ → ℕ → List Rule
place_rules t room = bench_rules t buffer_bytes ++ place_count_rules room

-- the number of records where all is fine
unfoldable pub names_answer : List ℕ → ℕ → Result ℕ Refusal
names_answer t room = answered (refusal (place_rules t room)) (lines_of (records_in t))

-- the promise, whatever the text and the places: the answer's case, its number and values, and every place; a refusal writes nothing
pub record TellsNames (t p p' : List ℕ) (r : Result ℕ Refusal) : Type 0 where
  pub answer : r ≡ names_answer t (length p)
  pub numbers : read_numbers r ≡ told (refusal (place_rules t (length p))) (success (lines_of (records_in t)) 0 0)
  pub places : p' ≡ unless (refusal (place_rules t (length p))) p (laid_on p (places_in t))

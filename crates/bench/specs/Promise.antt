-- The reader of the bench notation: its refusals, what it answers, and what the lent buffer holds afterwards.
-- Assumes nothing.
use Rattle.std.specs.Prelude.{◌≡◌, List, ◌++◌, ℕ, length, Result}
use Rattle.ground.specs.Put.{laid_on}
use Rattle.answers.specs.Rules.{Rule, refusal, unless}
use Rattle.answers.specs.Answer.{answered}
use Rattle.answers.specs.Area.{Numbers, success, in_numbers, told}
use Rattle.circuit.specs.Record.{lines_of}
use Rattle.syntax.specs.Syntax.{syntax_rules}
use Rattle.names.specs.Names.{name_rules}
use Rattle.records.specs.Net.{records_of}
use Rattle.nets.specs.Rules.{net_rules}
use Rattle.texts.specs.Text.{defs_in, uses_in, net_in}
use Rattle.answers.specs.declared.Refusal.{Refusal}

-- 14, 15, 16, then those on the records
abbrev pub bench_rules : List ℕ → ℕ → List Rule
bench_rules t room = syntax_rules t ++ (name_rules t (defs_in t) (uses_in t) ++ net_rules (net_in t) room)

abbrev pub records_in : List ℕ → List ℕ
records_in t = records_of (net_in t)

-- the number of records where all is fine
unfoldable pub read_of : List ℕ → ℕ → Result ℕ Refusal
read_of t room = answered (refusal (bench_rules t room)) (lines_of (records_in t))

-- the paper's number and values for each case of the answer
unfoldable pub read_numbers : Result ℕ Refusal → Numbers
read_numbers = in_numbers (λ n. success n 0 0)

-- the promise, whatever the text and the buffer: the answer's case, its number and values, and every byte; a refusal writes nothing
pub record Reads (t c c' : List ℕ) (r : Result ℕ Refusal) : Type 0 where
  pub answer : r ≡ read_of t (length c)
  pub numbers : read_numbers r ≡ told (refusal (bench_rules t (length c))) (success (lines_of (records_in t)) 0 0)
  pub circuit : c' ≡ unless (refusal (bench_rules t (length c))) c (laid_on c (records_in t))

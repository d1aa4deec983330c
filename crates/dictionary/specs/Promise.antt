-- Part 2, the dictionary maker: the refusals 1, 2 and 4 to 10, and what it promises. The engines that make the table differ in their work memory alone.
-- Assumes nothing.
use Rattle.std.specs.Prelude.{◌≡◌, List, ◌++◌, ℕ, ◌*◌, length}
use Rattle.answers.specs.Rules.{Ruling}
use Rattle.answers.specs.Rules.{Rule, refusal, unless}
use Rattle.answers.specs.Lent.{lent_rules}
use Rattle.answers.specs.Area.{told, done}
use Rattle.circuit.specs.Record.{lines_of, inputs_of}
use Rattle.circuit.specs.Promise.{circuit_rules}
use Rattle.lists.specs.Faults.{fault_count}
use Rattle.lists.specs.Patterns.{pattern_count}
use Rattle.lists.specs.Both.{list_rules}
use Rattle.rows.specs.Table.{table_of, table_work}

-- what is checked after the circuit: the faults, the patterns, and the exact sizes: table faults × patterns, work memory `size`
abbrev pub dictionary_rest_rules : ℕ → List ℕ → ℕ → List ℕ → List ℕ → ℕ → ℕ → List Rule
dictionary_rest_rules size c m fs ps table work = list_rules c m fs ps ++ lent_rules (fault_count fs * pattern_count m ps) table size work

-- all that is checked, where each line has so many places in the work memory
abbrev pub dictionary_rules : ℕ → List ℕ → List ℕ → List ℕ → ℕ → ℕ → List Rule
dictionary_rules places c fs ps table work = circuit_rules c ++ dictionary_rest_rules (places * lines_of c) c (inputs_of c) fs ps table work

-- what they say of a table t and a work memory w that are lent
abbrev pub dictionary_ruling : ℕ → List ℕ → List ℕ → List ℕ → List ℕ → List ℕ → Ruling
dictionary_ruling places c fs ps t w = refusal (dictionary_rules places c fs ps (length t) (length w))

-- where t and w were lent, and r, t' and w' come back: the answer, its number and values, every byte of the table, and every place of the work
-- memory, which is to hold `left`
pub record Answered (places : ℕ) (left c fs ps t w : List ℕ) (r : Ruling) (t' w' : List ℕ) : Type 0 where
  pub answer : r ≡ dictionary_ruling places c fs ps t w
  pub numbers : told r done ≡ told (dictionary_ruling places c fs ps t w) done
  pub table : t' ≡ unless (dictionary_ruling places c fs ps t w) t (table_of c (lines_of c) (inputs_of c) fs ps)
  pub work : w' ≡ unless (dictionary_ruling places c fs ps t w) w left

-- the promise, whatever the bytes, of the engine that has a byte for each line's good value and one for its faulty value
abbrev pub Dictionary : List ℕ → List ℕ → List ℕ → List ℕ → List ℕ → Ruling → List ℕ → List ℕ → Type 0
Dictionary c fs ps t w r t' w' = Answered 2 (table_work c (lines_of c) (inputs_of c) fs ps) c fs ps t w r t' w'

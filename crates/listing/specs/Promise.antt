-- What the dictionary program prints for a circuit c, faults fs and patterns ps.
-- Assumes nothing.
use Rattle.std.specs.Prelude.{◌≡◌, List, ◌++◌, ℕ, ◌≤◌, length, drop, Ok, Err}
use Rattle.ground.specs.Put.{Put}
use Rattle.answers.specs.Rules.{Ruling}
use Rattle.answers.specs.Rules.{Rule, refusal, unless}
use Rattle.circuit.specs.Record.{lines_of, inputs_of}
use Rattle.circuit.specs.Promise.{circuit_rules}
use Rattle.lists.specs.Faults.{fault_count}
use Rattle.lists.specs.Patterns.{pattern_count}
use Rattle.lists.specs.Both.{list_rules}
use Rattle.rows.specs.Table.{table_of}
use Rattle.tables.specs.Entries.{entries_of}
use Rattle.needs.specs.Needs as needs
use Rattle.letters.specs.Text.{lines_to, refused_text}
use Rattle.answers.specs.Area.{number_of}

-- what can be refused: the circuit, the faults, the patterns; its own buffers are of their size
abbrev pub program_rules : List ℕ → List ℕ → List ℕ → List Rule
program_rules c fs ps = circuit_rules c ++ list_rules c (inputs_of c) fs ps

-- one line per pattern of a table, each pattern marked as the compaction says
abbrev pub table_text : ℕ → ℕ → List ℕ → List ℕ
table_text faults patterns t = lines_to faults t (needs.compacted (entries_of faults t) faults patterns) patterns

-- the dictionary
abbrev pub dictionary_of : List ℕ → List ℕ → List ℕ → List ℕ
dictionary_of c fs ps = table_of c (lines_of c) (inputs_of c) fs ps

abbrev pub lines_of_all : List ℕ → List ℕ → List ℕ → List ℕ
lines_of_all c fs ps = table_text (fault_count fs) (pattern_count (inputs_of c) ps) (dictionary_of c fs ps)

-- a refusal prints only its own line
abbrev pub text_by : Ruling → List ℕ → List ℕ
text_by (Ok u) lines = lines
text_by (Err why) lines = refused_text (number_of why.0) why.1

unfoldable pub output_of : List ℕ → List ℕ → List ℕ → List ℕ
output_of c fs ps = text_by (refusal (program_rules c fs ps)) (lines_of_all c fs ps)

-- the promise, where a table t and memory w were lent: the text stands at the start of w', the rest stays, and r is the text's length;
-- the dictionary stands at the start of t', and a refusal leaves the table
pub record Listed (c fs ps t w : List ℕ) (r : ℕ) (t' w' : List ℕ) : Type 0 where
  pub written : Put w w' 0 (output_of c fs ps) r
  pub fits : r ≤ length w'
  pub table : t' ≡ unless (refusal (program_rules c fs ps)) t (dictionary_of c fs ps ++ drop (length (dictionary_of c fs ps)) t)

-- What the functions of the listing owe each other; no reader of the promises needs it.
-- Assumes nothing.
use Rattle.std.specs.Prelude.{◌≡◌, List, ℕ, ◌*◌, ◌≤◌, ◌<◌, length}
use Rattle.ground.specs.Put.{Put}
use Rattle.answers.specs.Rules.{Ruling}
use Rattle.answers.specs.Rules.{refusal, unless}
use Rattle.answers.specs.Small.{Small}
use Rattle.circuit.specs.Record.{lines_of, inputs_of}
use Rattle.lists.specs.Faults.{fault_count}
use Rattle.lists.specs.Patterns.{pattern_count}
use Rattle.tables.specs.Table as tables
use Rattle.listing.specs.Promise.{program_rules, dictionary_of, output_of}

-- a table that the compactor takes, and memory for its lines
pub record PutTableReady (table : List ℕ) (out faults patterns : ℕ) : Type 0 where
  pub sized : tables.Sized faults patterns (length table)
  pub small : (i : ℕ) → i < length table → Small table i
  pub lines : 280 * patterns ≤ out

-- the entries of a table, as far as they are not too many
pub record EntriesDone (faults patterns r : ℕ) : Type 0 where
  pub product : faults ≤ 256 → patterns ≤ 256 → r ≡ faults * patterns
  pub most : r ≤ 65536

-- so many faults and patterns
pub record PutMadeReady (c fs ps : List ℕ) (f p : ℕ) : Type 0 where
  pub faults : f ≡ fault_count fs
  pub patterns : p ≡ pattern_count (inputs_of c) ps

-- the lines of the circuit, and a table of its size, as far as the lists are not too long
pub record MakeReady (c : List ℕ) (n : ℕ) (fs ps : List ℕ) (table : ℕ) : Type 0 where
  pub lines_are : n ≡ lines_of c
  pub most_lines : n ≤ 2048
  pub entries : fault_count fs ≤ 256 → pattern_count (inputs_of c) ps ≤ 256 → table ≡ fault_count fs * pattern_count (inputs_of c) ps

-- the dictionary is made, or something is refused
pub record MakeDone (c fs ps t : List ℕ) (r : Ruling) (t' : List ℕ) : Type 0 where
  pub answer : r ≡ refusal (program_rules c fs ps)
  pub table : t' ≡ unless (refusal (program_rules c fs ps)) t (dictionary_of c fs ps)

-- the text, and the dictionary in a table of its size
pub record PutMadeDone (c fs ps t w : List ℕ) (r : ℕ) (t' w' : List ℕ) : Type 0 where
  pub written : Put w w' 0 (output_of c fs ps) r
  pub fits : r ≤ length w'
  pub table : t' ≡ unless (refusal (program_rules c fs ps)) t (dictionary_of c fs ps)

-- What the functions of the table filler owe each other and their callers; no reader of the promises needs it.
-- Assumes nothing.
use Rattle.std.specs.Prelude.{◌≡◌, List, ◌++◌, ℕ, ◌+◌, ◌*◌, ◌≤◌, ◌<◌, length, take, drop}
use Rattle.answers.specs.Records.{Records}
use Rattle.circuit.specs.Formed.{WellFormed}
use Rattle.lists.specs.Faults.{fault_count, fault_line, fault_value}
use Rattle.lists.specs.Patterns.{pattern_count, pattern_at}
use Rattle.simulate.specs.Work.{both_under}
use Rattle.simulate.specs.Owed.{AllSmall}
use Rattle.rows.specs.Table.{Forces, row_under, table_under, last_fault, work_under}

-- ---- the row of one pattern

pub record RowReady (c : List ℕ) (n : ℕ) (p fs : List ℕ) (row work : ℕ) : Type 0 where
  pub well : WellFormed c (length p) n
  pub faults : length fs ≡ 8 * row
  pub small : AllSmall p
  pub lines : (j : ℕ) → j < row → fault_line fs j < n
  pub values : (j : ℕ) → j < row → fault_value fs j ≤ 1
  pub some : 1 ≤ row
  pub two : work ≡ n + n

pub record RowDone (forces : Forces) (c : List ℕ) (n : ℕ) (p fs row work : List ℕ) : Type 0 where
  pub row_is : row ≡ row_under forces c n fs p
  pub work_is : work ≡ both_under (forces (last_fault fs)) c p n

-- ---- the table

-- an accepted circuit with its faults and at most so many patterns, a table for them, and work memory with so many places for each line
pub record TableReady (most places : ℕ) (c : List ℕ) (n m : ℕ) (fs ps : List ℕ) (table work : ℕ) : Type 0 where
  pub well : WellFormed c m n
  pub most_lines : n ≤ 2048
  pub some_inputs : 1 ≤ m
  pub most_inputs : m ≤ 64
  pub faults : Records 8 256 (length fs)
  pub fault_lines : (j : ℕ) → j < fault_count fs → fault_line fs j < n
  pub fault_values : (j : ℕ) → j < fault_count fs → fault_value fs j ≤ 1
  pub patterns : Records m most (length ps)
  pub pattern_values : AllSmall ps
  pub entries : table ≡ fault_count fs * pattern_count m ps
  pub room : work ≡ places * n

-- steps of so many lines, with each fault on a line of the first
pub record FaultsInSteps (step n : ℕ) (fs : List ℕ) : Type 0 where
  pub inside : step ≤ n
  pub lines : (j : ℕ) → j < fault_count fs → fault_line fs j < step

-- row i is put into the table
pub record PutRowDone (forces : Forces) (c : List ℕ) (n m : ℕ) (fs ps : List ℕ) (i : ℕ) (t t' w' : List ℕ) : Type 0 where
  pub table_is : t' ≡ take (i * fault_count fs) t ++ (row_under forces c n fs (pattern_at m ps i) ++ drop (i * fault_count fs + fault_count fs) t)
  pub work_is : w' ≡ both_under (forces (last_fault fs)) c (pattern_at m ps i) n

pub record TableDone (forces : Forces) (c : List ℕ) (n m : ℕ) (fs ps t w : List ℕ) : Type 0 where
  pub table_is : t ≡ table_under forces c n m fs ps
  pub work_is : w ≡ work_under forces c n m fs ps

-- What the functions of the groups owe each other and their callers; no reader of the promises needs it.
-- Assumes nothing.
use Rattle.std.specs.Prelude.{◌≡◌, List, ◌++◌, ℕ, ◌+◌, ◌*◌, ◌≤◌, ◌<◌, take, drop}
use Rattle.lists.specs.Faults.{fault_count}
use Rattle.lane_lines.specs.Lines.{both_words_under}
use Rattle.rows.specs.Table.{Forces, table_under, last_fault}
use Rattle.groups.specs.Work.{lane_work_under}

-- the table of one group, and the words of all lines with the last fault
pub record GroupDone (forces : Forces) (c : List ℕ) (n m : ℕ) (fs ps t w : List ℕ) : Type 0 where
  pub table_is : t ≡ table_under forces c n m fs ps
  pub work_is : w ≡ both_words_under (forces (last_fault fs)) c m ps n

-- so many patterns from one on
abbrev pub patterns_from : ℕ → List ℕ → ℕ → ℕ → List ℕ
patterns_from m ps from rows = take (rows * m) (drop (from * m) ps)

-- the group from this pattern on has so many: 64, or all that are left of count
pub record Next (from rows count : ℕ) : Type 0 where
  pub some : 1 ≤ rows
  pub few : rows ≤ 64
  pub inside : from + rows ≤ count
  pub last : rows < 64 → from + rows ≡ count

-- so many groups: none is empty, and no pattern is left
pub record GroupCount (count groups : ℕ) : Type 0 where
  pub begun : (g : ℕ) → g < groups → 64 * g < count
  pub enough : count ≤ 64 * groups

-- the rows of so many patterns from one on are put into the table
pub record PutGroupDone (forces : Forces) (c : List ℕ) (n m : ℕ) (fs ps : List ℕ) (from rows : ℕ) (t t' w' : List ℕ) : Type 0 where
  pub table_is :
      t' ≡ take (from * fault_count fs) t ++ (table_under forces c n m fs (patterns_from m ps from rows) ++ drop (from * fault_count fs + rows * fault_count fs) t)
  pub work_is : w' ≡ both_words_under (forces (last_fault fs)) c m (patterns_from m ps from rows) n

pub record GroupsDone (forces : Forces) (c : List ℕ) (n m : ℕ) (fs ps t w : List ℕ) : Type 0 where
  pub table_is : t ≡ table_under forces c n m fs ps
  pub work_is : w ≡ lane_work_under forces c n m fs ps

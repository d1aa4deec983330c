-- What a column asks of the table that it is laid into, and what it leaves there; no reader of the promises needs it.
-- Assumes nothing.
use Rattle.std.specs.Prelude.{◌≡◌, List, ℕ, ◌+◌, ◌*◌, ◌≤◌, ◌<◌, length, get_or}
use Rattle.columns.specs.declared.EntryLanes.{EntryLanes}
use Rattle.columns.specs.Entries.{entry_lanes}

-- a table of `width` columns and at most as many rows as there are lanes
pub record ColumnReady (width count j entries : ℕ) : Type 0 where
  pub rows : count ≤ 64
  pub columns : width ≤ 256
  pub inside : j < width
  pub size : entries ≡ width * count

-- column j holds e i in row i; the other columns are as they were
pub record ColumnDone (width count j : ℕ) (e : ℕ → ℕ) (t t' : List ℕ) : Type 0 where
  pub long : length t' ≡ length t
  pub here : (i : ℕ) → i < count → get_or t' (i * width + j) 0 ≡ e i
  pub others : (i k : ℕ) → i < count → k < width → (k ≡ j → ⊥) → get_or t' (i * width + k) 0 ≡ get_or t (i * width + k) 0

-- where the words are those of whatever entries
abbrev pub PutColumnDone : ℕ → ℕ → ℕ → EntryLanes → List ℕ → List ℕ → Type 0
PutColumnDone width count j words t t' =
    (e : ℕ → ℕ) → ((i : ℕ) → i < 64 → e i ≤ 2) → words ≡ entry_lanes e → ColumnDone width count j e t t'

-- What a tally owes and is owed; no reader of the promises needs it.
-- Assumes nothing.
use Rattle.std.specs.Prelude.{◌≡◌, Bool, true, false, List, ℕ, ◌+◌, ◌*◌, ◌≤◌, length, get_or}
use Rattle.counts.specs.Counted.{hit}
use Rattle.counts.specs.Owed.{CellsDone, SeeDone}

-- room for the counts c of all pairs and faults, for the notes s of 256 faults, and a table t of its size
pub record TallyRoom (c s t : List ℕ) (F P : ℕ) : Type 0 where
  pub few_faults : F ≤ 256
  pub few_patterns : P ≤ 256
  pub cells : 256 * F + F ≤ length c
  pub faults : length s ≡ 256
  pub table : length t ≡ P * F

abbrev pub Zeros : List ℕ → Type 0
Zeros l = (k : ℕ) → get_or l k 0 ≡ 0

-- counts that are all 0, with room for F faults
pub record Cleared (c : List ℕ) (F : ℕ) : Type 0 where
  pub cells : 256 * F + F ≤ length c
  pub zeros : Zeros c

-- what it does for a pattern, which is of the set or not
pub record PatternDone (in_set : Bool) (t : List ℕ) (from F : ℕ) (c s c' s' : List ℕ) : Type 0 where
  pub counts : in_set ≡ true → CellsDone true (hit t from F) c c' × SeeDone t from F s s'
  pub leaves : in_set ≡ false → (c' ≡ c) × (s' ≡ s)

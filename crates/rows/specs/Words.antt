-- The table in the paper's words; the definition is proved to say the same.
-- Assumes nothing.
use Rattle.std.specs.Prelude.{◌≡◌, List, ℕ, ◌+◌, ◌*◌, ◌<◌, length, get_or}
use Rattle.lists.specs.Faults.{fault_count, fault_at}
use Rattle.lists.specs.Patterns.{pattern_count, pattern_at}
use Rattle.simulate.specs.Simulate.{stuck_at}
use Rattle.entry.specs.Entry.{entry_under}
use Rattle.rows.specs.Table.{Forces}

-- one row per pattern, one entry per fault in the row
pub record MadeUnder (forces : Forces) (c : List ℕ) (n m : ℕ) (fs ps t : List ℕ) : Type 0 where
  pub size : length t ≡ fault_count fs * pattern_count m ps
  pub entry : (i j : ℕ) → i < pattern_count m ps → j < fault_count fs → get_or t (i * fault_count fs + j) 0 ≡ entry_under (forces (fault_at fs j)) c (pattern_at m ps i) n

-- of the dictionary maker
abbrev pub Made : List ℕ → ℕ → ℕ → List ℕ → List ℕ → List ℕ → Type 0
Made = MadeUnder stuck_at

-- The same in the paper's words. They are proved equivalent.
-- Assumes nothing.
use Rattle.std.specs.Prelude.{◌⊎◌, List, ℕ}
use Rattle.reads.specs.Words.{PinReads, Branches}

-- line k can be reached from a branch of a line j that branches: by reading it, or by reading a line that can be reached
pub data Bound (c : List ℕ) (n : ℕ) : ℕ → Type 0 where
  branch : {k j s : ℕ} → PinReads c n j k s → Branches c n j → Bound c n k
  beyond : {k j s : ℕ} → PinReads c n j k s → Bound c n j → Bound c n k

abbrev pub Free : List ℕ → ℕ → ℕ → Type 0
Free c n k = Bound c n k → ⊥

-- it is free, and a bound line reads it or it branches
pub record Head (c : List ℕ) (n k : ℕ) : Type 0 where
  pub is_free_line : Free c n k
  pub why : ((j : ℕ) × (s : ℕ) × PinReads c n k j s × Bound c n j) ⊎ Branches c n k

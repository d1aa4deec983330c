-- Values and entries in memory: each byte 0, 1 or 2.
-- Assumes nothing.
use Rattle.std.specs.Prelude.{Bool, List, ℕ, ◌≤◌, leb, get_or}

-- byte i is 0, 1 or 2: as a test, and in words
unfoldable pub small_ok : List ℕ → ℕ → Bool
small_ok bytes i = leb (get_or bytes i 0) 2

abbrev pub Small : List ℕ → ℕ → Type 0
Small bytes i = get_or bytes i 0 ≤ 2

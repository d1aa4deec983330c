-- So many bytes are whole records of a width, 1 to `most` of them.
-- Assumes nothing.
use Rattle.std.specs.Prelude.{◌≡◌, Bool, ◌&&◌, ℕ, ◌*◌, ◌≤◌, ◌/◌, ◌%◌, eqb, leb}

unfoldable pub records_ok : ℕ → ℕ → ℕ → Bool
records_ok width most bytes = eqb (bytes % width) 0 && (leb 1 (bytes / width) && leb (bytes / width) most)

-- the same in words: a multiple of the width, not empty, not above so many records
pub record Records (width most bytes : ℕ) : Type 0 where
  pub multiple : bytes ≡ width * (bytes / width)
  pub some : 1 ≤ bytes / width
  pub few : bytes / width ≤ most

-- What `put_lines` asks of its callers; no reader of the promises needs it.
-- Assumes nothing.
use Rattle.std.specs.Prelude.{◌≡◌, List, ℕ, ◌*◌, ◌≤◌, length}

-- a table of so many faults and patterns, a mark for each pattern, and 280 bytes for each line
pub record PutLinesRoom (table marks out : List ℕ) (faults patterns : ℕ) : Type 0 where
  pub few_faults : faults ≤ 256
  pub few_patterns : patterns ≤ 256
  pub entries : length table ≡ faults * patterns
  pub marked : patterns ≤ length marks
  pub lines : 280 * patterns ≤ length out

-- The entry of a pattern and a fault as a number, and a table of entries.
-- Assumes nothing.
use Rattle.std.specs.Prelude.{List, ℕ, ◌+◌, ◌*◌, get_or}

-- every other number counts as unknown
abbrev pub pass : ℕ
pass = 0

abbrev pub fail : ℕ
fail = 1

abbrev pub unknown : ℕ
unknown = 2

-- pattern and fault, to their entry
abbrev pub Entries : Type 0
Entries = ℕ → ℕ → ℕ

-- in memory: one row per pattern, one entry per fault in the row, of so many faults
abbrev pub entries_of : ℕ → List ℕ → Entries
entries_of faults t p f = get_or t (p * faults + f) 0

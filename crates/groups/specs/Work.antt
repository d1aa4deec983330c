-- The patterns in groups of 64, and the work memory afterwards: of a circuit c with n lines and m inputs, faults fs and patterns ps.
-- Assumes nothing.
use Rattle.std.specs.Prelude.{List, ℕ, ◌*◌, ◌-◌, ◌/◌, take, drop}
use Rattle.lists.specs.Patterns.{pattern_count}
use Rattle.simulate.specs.Simulate.{stuck_at}
use Rattle.lane_lines.specs.Lines.{both_words_under}
use Rattle.rows.specs.Table.{Forces, last_fault}

-- group g: 64 patterns, or as many as are left
abbrev pub group_at : ℕ → List ℕ → ℕ → List ℕ
group_at m ps g = take (64 * m) (drop (64 * g * m) ps)

-- the group of the last pattern
abbrev pub last_group : ℕ → List ℕ → List ℕ
last_group m ps = group_at m ps ((pattern_count m ps - 1) / 64)

-- good, then faulty lines of the last group with the last fault
unfoldable pub lane_work_under : Forces → List ℕ → ℕ → ℕ → List ℕ → List ℕ → List ℕ
lane_work_under forces c n m fs ps = both_words_under (forces (last_fault fs)) c m (last_group m ps) n

-- of the dictionary maker: each fault is a stuck site
abbrev pub lane_work : List ℕ → ℕ → ℕ → List ℕ → List ℕ → List ℕ
lane_work = lane_work_under stuck_at

-- The table, row by row, and the work memory afterwards: of a circuit c with n lines and m inputs, faults fs and patterns ps.
-- Assumes nothing.
use Rattle.std.specs.Prelude.{List, ℕ, ◌-◌}
use Rattle.ground.specs.Lists.{table, gather}
use Rattle.lists.specs.declared.Fault.{Fault}
use Rattle.lists.specs.Faults.{fault_count, fault_at}
use Rattle.lists.specs.Patterns.{pattern_count, pattern_at}
use Rattle.simulate.specs.Simulate.{Forcing, stuck_at}
use Rattle.simulate.specs.Work.{both_under}
use Rattle.entry.specs.Entry.{entry_under}

-- what a fault forces: a stuck site, or one in every step
abbrev pub Forces : Type 0
Forces = Fault → Forcing

-- the first j entries of the row of pattern p
abbrev pub row_to_under : Forces → List ℕ → ℕ → List ℕ → List ℕ → ℕ → List ℕ
row_to_under forces c n fs p j = table (λ k. entry_under (forces (fault_at fs k)) c p n) j

-- one entry per fault in the row
abbrev pub row_under : Forces → List ℕ → ℕ → List ℕ → List ℕ → List ℕ
row_under forces c n fs p = row_to_under forces c n fs p (fault_count fs)

-- the first i rows
abbrev pub table_to_under : Forces → List ℕ → ℕ → ℕ → List ℕ → List ℕ → ℕ → List ℕ
table_to_under forces c n m fs ps i = gather (λ k. row_under forces c n fs (pattern_at m ps k)) i

-- one row per pattern
unfoldable pub table_under : Forces → List ℕ → ℕ → ℕ → List ℕ → List ℕ → List ℕ
table_under forces c n m fs ps = table_to_under forces c n m fs ps (pattern_count m ps)

abbrev pub last_fault : List ℕ → Fault
last_fault fs = fault_at fs (fault_count fs - 1)

abbrev pub last_pattern : ℕ → List ℕ → List ℕ
last_pattern m ps = pattern_at m ps (pattern_count m ps - 1)

-- good, then faulty values of the last pattern with the last fault
unfoldable pub work_under : Forces → List ℕ → ℕ → ℕ → List ℕ → List ℕ → List ℕ
work_under forces c n m fs ps = both_under (forces (last_fault fs)) c (last_pattern m ps) n

-- ---- of the dictionary maker: each fault is a stuck site

abbrev pub row_of : List ℕ → ℕ → List ℕ → List ℕ → List ℕ
row_of = row_under stuck_at

abbrev pub table_to : List ℕ → ℕ → ℕ → List ℕ → List ℕ → ℕ → List ℕ
table_to = table_to_under stuck_at

abbrev pub table_of : List ℕ → ℕ → ℕ → List ℕ → List ℕ → List ℕ
table_of = table_under stuck_at

abbrev pub table_work : List ℕ → ℕ → ℕ → List ℕ → List ℕ → List ℕ
table_work = work_under stuck_at

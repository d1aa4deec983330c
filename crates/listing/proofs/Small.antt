-- Every entry of a table is 0, 1 or 2.
-- Assumes nothing.
use mathlib.Core.List.{List}
use Prim.Native.Nat.{ℕ, ◌≤◌}
use native.Mathlib.Omega.{arith}
use Rattle.ground.proofs.Grow.{grow_each}
use Rattle.ground.proofs.Gather.{gather_each}
use Rattle.lists.specs.Faults.{fault_at, fault_count}
use Rattle.lists.specs.Patterns.{pattern_at, pattern_count}
use Rattle.answers.specs.Small.{Small}
use Rattle.simulate.specs.Simulate.{stuck_at}
use Rattle.entry.proofs.Words.{entry_small}
use Rattle.rows.specs.Table.{row_of, table_under, table_of}

pub table_small : (c : List ℕ) (n m : ℕ) (fs ps : List ℕ) (i : ℕ) → Small (table_of c n m fs ps) i
unfolding table_under
table_small c n m fs ps =
    gather_each (λ e. e ≤ 2) 0 (omega arith) (λ i. row_of c n fs (pattern_at m ps i)) (pattern_count m ps)
    (λ i _. grow_each (λ e. e ≤ 2) 0 (omega arith) _ (fault_count fs) (λ j _ _. entry_small (stuck_at (fault_at fs j)) c (pattern_at m ps i) n))

-- Where all lines make one step, a fault in every step is a stuck site: the table is the dictionary's.
-- Assumes nothing.
use mathlib.Core.Path.{◌≡◌, ap}
use mathlib.Core.List.{List}
use Prim.Native.Nat.{ℕ}
use Rattle.ground.proofs.Grow.{grow-same}
use Rattle.ground.proofs.Gather.{gather-same}
use Rattle.lists.specs.declared.Fault.{Fault}
use Rattle.lists.specs.Faults.{fault_count, fault_at}
use Rattle.lists.specs.Patterns.{pattern_count, pattern_at}
use Rattle.simulate.specs.Simulate.{stuck_at, stuck_in_steps}
use Rattle.simulate.specs.Work.{good_of}
use Rattle.simulate.proofs.Steps.{one_step}
use Rattle.entry.specs.Entry.{entry_of, entry_under}
use Rattle.rows.specs.Table.{row_under, table_under}

same-entry : (fault : Fault) (c p : List ℕ) (n : ℕ) → entry_under (stuck_in_steps n fault) c p n ≡ entry_under (stuck_at fault) c p n
unfolding entry_under
same-entry fault c p n = ap (λ (vs : List ℕ). entry_of c (good_of c p n) vs n) (one_step (stuck_at fault) c p n)

module _ (c : List ℕ) (n m : ℕ) (fs ps : List ℕ) where
  same_row : (p : List ℕ) → row_under (stuck_in_steps n) c n fs p ≡ row_under stuck_at c n fs p
  same_row p = grow-same _ _ (fault_count fs) (λ k l. same-entry (fault_at fs k) c p n)

  pub same-table : table_under (stuck_in_steps n) c n m fs ps ≡ table_under stuck_at c n m fs ps
  unfolding table_under
  same-table = gather-same _ _ (pattern_count m ps) (λ i l. same_row (pattern_at m ps i))

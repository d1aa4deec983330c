-- Where all lines make one step, a fault in every step is a stuck site: the table and the work memory are the dictionary's.
-- Assumes nothing.
use mathlib.Core.Path.{◌≡◌, ap, fun_ext, ◌∙◌}
use mathlib.Core.List.{List, ◌++◌}
use Prim.Native.Nat.{ℕ}
use Rattle.simulate.specs.Simulate.{stuck_at, stuck_in_steps}
use Rattle.simulate.proofs.Steps.{one_step}
use Rattle.lane_lines.specs.Lines.{lane_pattern, line_words, good_words}
use Rattle.rows.specs.Table.{last_fault}
use Rattle.rows.proofs.OneStep.{same-table}
use Rattle.groups.specs.Work.{last_group, lane_work_under}
use Rattle.groups.specs.Owed.{GroupsDone}

module _ (c : List ℕ) (n m : ℕ) (fs ps : List ℕ) where
  same_work : lane_work_under (stuck_in_steps n) c n m fs ps ≡ lane_work_under stuck_at c n m fs ps
  unfolding lane_work_under
  same_work =
      ap (λ (vs : ℕ → List ℕ). good_words c m (last_group m ps) n ++ line_words vs n)
      (fun_ext (λ i. one_step (stuck_at (last_fault fs)) c (lane_pattern m (last_group m ps) i) n))

  pub one_step_done : {t w : List ℕ} → GroupsDone (stuck_in_steps n) c n m fs ps t w → GroupsDone stuck_at c n m fs ps t w
  one_step_done d = record { table_is = d.table_is ∙ same-table c n m fs ps; work_is = d.work_is ∙ same_work }

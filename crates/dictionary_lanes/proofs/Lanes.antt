-- The lanes of the last group carry the patterns of the list from the group's first on, and those to spare X.
-- Assumes nothing.
use mathlib.Core.Path.{◌≡◌, ap}
use mathlib.Core.Logic.{⊎_elim}
use mathlib.Core.List.{List}
use Prim.Native.Nat.{ℕ, ◌+◌, ◌*◌, ◌-◌, ◌≤◌, ◌<◌}
use native.Mathlib.Nat.{mul-div_right, mul-le-mul_right}
use native.Mathlib.Omega.{arith}
use lib.ListN.{length, drop, length-drop}
use lib.Seq.{take_all, drop-drop}
use borrow.Author.Tests.{lt-ltb, le-ltb}
use Rattle.ground.proofs.Tests.{either}
use Rattle.answers.specs.Records.{Records}
use Rattle.lists.specs.Patterns.{pattern_count}
use Rattle.lane_lines.specs.Lines.{lane_pattern}
use Rattle.groups.specs.Work.{last_group}
use Rattle.dictionary_lanes.specs.Words.{last_start, last_lane}

module _ {m : ℕ} (ps : List ℕ) (some : 1 ≤ m) (records : Records m 256 (length ps)) where
  -- so many patterns has the last group
  left : ℕ
  left = pattern_count m ps - last_start m ps

  bytes : length ps - last_start m ps * m ≡ m * left
  unfolding left
  bytes =
      let e : pattern_count m ps ≡ last_start m ps + (pattern_count m ps - last_start m ps) = omega arith in
      omega (arith, records.multiple, ap (λ (x : ℕ). m * x) e)

  -- it goes to the end of the list
  group_is : last_group m ps ≡ drop (last_start m ps * m) ps
  unfolding left
  group_is =
      let few : pattern_count m ps - last_start m ps ≤ 64 = omega arith in
      take_all (64 * m) (drop (last_start m ps * m) ps) (simp length-drop (omega (arith, bytes, mul-le-mul_right m few)))

  count_is : pattern_count m (last_group m ps) ≡ left
  count_is = rw group_is (simp (length-drop, bytes) (mul-div_right left some))

  pub last_lane_lem : (i : ℕ) → lane_pattern m (last_group m ps) i ≡ last_lane m ps i
  unfolding lane_pattern last_lane left
  last_lane_lem i =
      let place : last_start m ps * m + i * m ≡ (last_start m ps + i) * m = omega arith in
      rw count_is
      (⊎_elim
      (λ (l : i < left). rw (lt-ltb i left l, lt-ltb (last_start m ps + i) (pattern_count m ps) (omega arith), group_is, drop-drop (i * m) (last_start m ps * m) ps, place))
      (λ (l : left ≤ i). rw (le-ltb i left l, le-ltb (last_start m ps + i) (pattern_count m ps) (omega arith)))
      (either i left))

-- The choices by kind give what the table has.
-- Assumes nothing.
use mathlib.Core.Path.{◌≡◌, refl, sym}
use mathlib.Core.Logic.{⊎_elim}
use mathlib.Core.Bool.{Bool}
use Prim.Native.Nat.{ℕ, suc, ◌-◌, ◌≤◌, ◌<◌}
use native.Mathlib.Omega.{arith}
use lib.Dec.{T, eqb, eqb→eq}
use lib.ListN.{length, get_or-eq_default}
use borrow.Author.Tests.{ne_eqb, lt-ltb, le-ltb}
use Rattle.ground.specs.Below.{all_below}
use Rattle.ground.proofs.Below.{at_below}
use Rattle.ground.proofs.Tests.{either}
use Rattle.gates.specs.Gate.{X, last_kind}
use Rattle.trees.specs.Need.{need_table, need_of}
use Rattle.setting.specs.Owed.{alone, both, forced_or, after_zero, selecting, need_by}

-- pin s + 1
by_test : ℕ → ℕ → ℕ → Bool
by_test k v s = eqb (need_by k v (suc s)) (need_of k v (suc s))

by_all : T (all_below (suc last_kind) (λ k. all_below 2 (λ v. all_below 3 (by_test k v))))
unfolding by_test need_by alone both forced_or after_zero selecting need_of need_table
by_all = tt

rows : length need_table ≡ 60
unfolding need_table
rows = refl

-- a kind without a row
no_row : (k v s : ℕ) → last_kind < k → v < 2 → need_by k v s ≡ need_of k v s
unfolding need_by need_of
no_row k v s l known =
    simp (
      ne_eqb k 1 (λ e. omega arith),
      ne_eqb k 2 (λ e. omega arith),
      ne_eqb k 3 (λ e. omega arith),
      ne_eqb k 4 (λ e. omega arith),
      ne_eqb k 5 (λ e. omega arith),
      ne_eqb k 6 (λ e. omega arith),
      ne_eqb k 7 (λ e. omega arith),
      ne_eqb k 8 (λ e. omega arith),
      ne_eqb k 9 (λ e. omega arith),
      lt-ltb v 2 known,
    )
    (sym (get_or-eq_default need_table X (rw rows (omega arith))))

pub by_kind : (k v s : ℕ) → v < 2 → 1 ≤ s → s ≤ 3 → need_by k v s ≡ need_of k v s
unfolding by_test
by_kind k v s known a b = ⊎_elim row (λ l. no_row k v s l known) (either k (suc last_kind))
  where
    row : k < suc last_kind → need_by k v s ≡ need_of k v s
    row l =
        let e : suc (s - 1) ≡ s = omega arith in
        let row_is = eqb→eq (need_by k v (suc (s - 1))) (need_of k v (suc (s - 1)))
        (at_below 3 (by_test k v) (at_below 2 (λ v. all_below 3 (by_test k v)) (at_below (suc last_kind) (λ k. all_below 2 (λ v. all_below 3 (by_test k v))) by_all k l) v known) (s - 1) (omega arith)) in
        rw e at row_is

-- X asks for nothing
pub none_asked : (k v s : ℕ) → 2 ≤ v → X ≡ need_of k v s
unfolding need_of
none_asked k v s l = rw (le-ltb v 2 l)

-- A table that a loop fills, line by line, with what the lines that pass a test say: there is room for one more as long as lines are left.
-- Assumes nothing.
use mathlib.Core.Path.{◌≡◌, sym, ap, ◌∙◌}
use mathlib.Core.Bool.{Bool, true}
use mathlib.Core.List.{List}
use Prim.Native.Nat.{ℕ, suc, ◌+◌, ◌≤◌, ◌<◌}
use native.Mathlib.Numerals.{add-one}
use native.Mathlib.Omega.{arith}
use lib.ListN.{length, take, set, length-set}
use Rattle.ground.specs.Choose.{one}
use Rattle.ground.specs.Below.{count_below}
use Rattle.ground.specs.Lists.{collect}
use Rattle.ground.proofs.Counting.{count_mono}
use Rattle.ground.proofs.Lists.{Collected, collected_none, collected_more}
use Rattle.statements.specs.Owed.{FewReady}

-- k of n lines are looked at, and d of them have passed
pub record Filling (test : ℕ → Bool) (f : ℕ → ℕ) (n : ℕ) (out : List ℕ) (d k : ℕ) : Type 0 where
  pub at_most : k ≤ n
  pub few : count_below n test ≤ 8192
  pub room : length out ≡ 8193
  pub in_room : d ≤ 8192
  pub so_far : Collected test f out d k

pub begun : {fs out : List ℕ} {test : ℕ → Bool} (f : ℕ → ℕ) → FewReady fs test out → Filling test f (length fs) out 0 0
begun f r = record {
  at_most = omega arith;
  few = r.few;
  room = r.room;
  in_room = omega arith;
  so_far = collected_none _ f _;
}

module _ {test : ℕ → Bool} {f : ℕ → ℕ} {n : ℕ} {out : List ℕ} {d k : ℕ} (s : Filling test f n out d k) where
  -- x is written, and counts where the line passes
  pub more : k < n → {x b : ℕ} → (test k ≡ true → x ≡ f k) → b ≡ one (test k) → Filling test f n (set out d x) (d + b) (k + 1)
  more l {x} {b} e q =
      let next = collected_more s.so_far (omega (arith, s.room, s.in_room)) x e in
      rw (q, add-one k)
      (record {
        at_most = omega arith;
        few = s.few;
        room = length-set out d x ∙ s.room;
        in_room = omega (arith, s.few, next.count, count_mono test (suc k) n l);
        so_far = next;
      })

  module _ (h : n ≤ k) where
    at_end : k ≡ n
    at_end = omega (arith, s.at_most)

    pub all_are : take d out ≡ collect test f n
    all_are = s.so_far.are ∙ ap (collect test f) at_end

    pub all_count : d ≡ count_below n test
    all_count = s.so_far.count ∙ ap (λ (i : ℕ). count_below i test) at_end

    pub so_many_are : take (count_below n test) out ≡ collect test f n
    so_many_are = ap (λ (i : ℕ). take i out) (sym all_count) ∙ all_are

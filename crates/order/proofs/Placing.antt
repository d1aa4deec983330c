-- The loop of `place`: n gates are placed, and none below the cursor c is ready.
-- Assumes nothing.
use mathlib.Core.Path.{◌≡◌, sym, ap, ◌∙◌}
use mathlib.Core.Logic.{inl, inr}
use mathlib.Core.Bool.{true, false}
use mathlib.Core.List.{List, [], ◌∷◌, ◌++◌}
use Prim.Native.Nat.{ℕ, suc, ◌+◌, ◌*◌, ◌-◌, ◌≤◌, ◌<◌}
use native.Mathlib.Nat.{not-suc-le-zero, suc-mul}
use native.Mathlib.Decide.{ℕ_discrete}
use native.Mathlib.Numerals.{add-one}
use native.Mathlib.Omega.{arith}
use lib.ListN.{length, get_or, take, set, length-set, length-replicate, get_or-replicate}
use lib.Seq.{length-take-le, take-suc-set, get_or-set_same, get_or-set_other}
use borrow.Author.Count.{below_more}
use Rattle.ground.specs.Choose.{one}
use Rattle.ground.specs.Lists.{elem}
use Rattle.ground.proofs.Lists.{elem_other, elem_last}
use Rattle.order.specs.Order.{ready, Order, nothing, next}
use Rattle.order.specs.Owed.{ready_by, Back, PlaceDone, PlaceReady}
use Rattle.order.proofs.Ready.{ready_new, placed_done, ready_other}
use Rattle.order.proofs.Gates.{order_room}
use Rattle.order.proofs.Marks.{Marks, ready-same}

pub record SoFar (a b placed order : List ℕ) (n c : ℕ) : Type 0 where
  pub at_most : c ≤ length a
  pub long : length placed ≡ length a
  pub room : length order ≡ length a
  pub count : n ≤ length a
  pub steps : Order a b (take n order)
  pub marks : Marks (length a) placed (take n order)
  pub below : (h : ℕ) → h < c → ready a b (take n order) h ≡ false

pub start : {a b reader placed order : List ℕ} → PlaceReady a b reader placed order → SoFar a b placed order 0 0
unfolding elem
start {a} {b} {reader} {placed} {order} r = record {
  at_most = omega arith;
  long = ap length r.unmarked ∙ length-replicate (length a) 0;
  room = r.room;
  count = omega arith;
  steps = nothing;
  marks = λ g l. ap (λ (x : List ℕ). get_or x g 0) r.unmarked ∙ get_or-replicate (length a) g 0 0 l;
  below = λ h l. absurd (not-suc-le-zero l);
}

-- what is left to do: a turn places a gate, or passes one
abbrev pub left : ℕ → ℕ → ℕ → ℕ
left gates n c = (gates - n) * (gates + 1) + (gates - c)

module _ {a b placed order : List ℕ} {n c : ℕ} (s : SoFar a b placed order n c) (l : c < length a) where
  -- the gate at c is not ready
  pub skipped : ready_by a b placed c ≡ false → SoFar a b placed order n (c + 1)
  skipped e = record {
    at_most = omega arith;
    long = s.long;
    room = s.room;
    count = s.count;
    steps = s.steps;
    marks = s.marks;
    below =
        below_more (λ (h : ℕ). ready a b (take n order) h ≡ false) c s.below
        (sym (ready-same a b placed (take n order) c s.long s.marks l) ∙ e);
  }

  -- it is
  module _ (e : ready_by a b placed c ≡ true) where
    is_ready : ready a b (take n order) c ≡ true
    is_ready = sym (ready-same a b placed (take n order) c s.long s.marks l) ∙ e

    pub n_small : n < length a
    n_small =
        omega (
          arith,
          order_room s.steps c l (ready_new a b (take n order) c is_ready),
          length-take-le n order (omega (arith, s.count, s.room)),
        )

    longer : take (n + 1) (set order n c) ≡ take n order ++ (c ∷ [])
    longer = rw add-one (take-suc-set order n c (omega (arith, n_small)))

    marked : (g : ℕ) → g < length a → Dec (c ≡ g) → get_or (set placed c 1) g 0 ≡ one (elem (take (n + 1) (set order n c)) g)
    marked g k (yes q) = rw (← q, longer, elem_last (take n order) c) (get_or-set_same placed c 1 0 (omega arith))
    marked g k (no q) =
        rw (longer, elem_other (take n order) c g q) (get_or-set_other placed c g 1 0 (λ r. q (sym r)) ∙ s.marks g k)

    -- the cursor goes to the next gate, or back to the first that may have become ready
    pub more : (reader : List ℕ) → Back a b reader → (c' : ℕ) → c' ≤ c + 1 → c' ≤ get_or reader c 0 → SoFar a b (set placed c 1) (set order n c) (n + 1) c'
    more reader back c' h k = record {
      at_most = omega arith;
      long = length-set placed c 1 ∙ s.long;
      room = length-set order n c ∙ s.room;
      count = omega (arith, n_small);
      steps = next (take n order) c s.steps (record { inside = l; is_ready = is_ready; none_before = s.below }) longer;
      marks = λ g j. marked g j (ℕ_discrete c g);
      below = λ x j. rw longer (nothing-before x j (ℕ_discrete c x));
    }
      where
        nothing-before : (x : ℕ) → x < c' → Dec (c ≡ x) → ready a b (take n order ++ (c ∷ [])) x ≡ false
        nothing-before x j (yes q) = placed_done a b (take n order ++ (c ∷ [])) x (rw (← q) (elem_last (take n order) c))
        nothing-before x j (no q) =
            ready_other a b (take n order) c x q
            (λ r. omega (arith, back x c (omega arith) (inl (sym r)) l))
            (λ r. omega (arith, back x c (omega arith) (inr (sym r)) l))
            ∙ s.below x (omega arith)

    pub falls : (c' : ℕ) → left (length a) (n + 1) c' < left (length a) n c
    falls c' =
        let d : length a - n ≡ suc (length a - (n + 1)) = omega (arith, n_small) in
        let m : (length a - n) * (length a + 1) ≡ (length a - (n + 1)) * (length a + 1) + (length a + 1) =
        ap (λ (z : ℕ). z * (length a + 1)) d ∙ suc-mul (length a - (n + 1)) (length a + 1) in
        omega (arith, m)

pub finished : {a b placed order : List ℕ} {n c : ℕ} → SoFar a b placed order n c → length a ≤ c → PlaceDone a b placed order n
finished {a} {b} {placed} {order} {n} {c} s h = record {
  size = s.count;
  is = record { steps = s.steps; ended = λ g l. s.below g (omega arith) };
  marks = s.marks;
}

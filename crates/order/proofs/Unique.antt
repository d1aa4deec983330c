-- The order as a function is the order in words, and there is no other.
-- Assumes nothing.
use mathlib.Core.Path.{◌≡◌, refl, sym, ap, ◌∙◌}
use mathlib.Core.Logic.{◌⊎◌, inl, inr, ⊎_elim}
use mathlib.Core.Bool.{Bool, true, false, not}
use mathlib.Core.List.{List, [], ◌∷◌, ◌++◌}
use Prim.Native.Nat.{ℕ, zero, suc, ◌+◌, ◌-◌, ◌≤◌, ◌<◌}
use native.Mathlib.Omega.{arith}
use lib.Dec.{ltb}
use lib.ListN.{length}
use borrow.Author.Tests.{lt-ltb, le-ltb, not-true, not-false}
use Rattle.ground.specs.Choose.{choose}
use Rattle.ground.specs.Lists.{elem}
use Rattle.ground.proofs.First.{first_cases, first_is, first_none}
use Rattle.ground.proofs.Lists.{elem_snoc}
use Rattle.order.specs.Order.{ready, earliest, order_from, order_of, Earliest, Order, nothing, next, Placed}
use Rattle.order.proofs.Ready.{ready_new}
use Rattle.order.proofs.Gates.{longer, order_most, order_room}

-- nothing more can be placed
abbrev Ended : List ℕ → List ℕ → List ℕ → Type 0
Ended a b p = (g : ℕ) → g < length a → ready a b p g ≡ false

module _ (a b p : List ℕ) where
  -- the earliest gate, or none
  cases : Earliest a b p (earliest a b p) ⊎ Ended a b p
  unfolding earliest
  cases =
      ⊎_elim
      (λ l. inl (record {
        inside = l.inside;
        is_ready = not-false _ l.bad;
        none_before = λ h k. not-true _ (l.below h (omega arith) k);
      }))
      (λ k. inr (λ g l. not-true _ (k.1 g (omega arith) l)))
      (first_cases (length a) (λ g. not (ready a b p g)))

  earliest-is : (g : ℕ) → Earliest a b p g → earliest a b p ≡ g
  unfolding earliest
  earliest-is g e =
      first_is (length a) (λ h. not (ready a b p h))
      (record { above = omega arith; inside = e.inside; bad = rw e.is_ready; below = λ h k l. rw (e.none_before h l) })

  none_earliest : Ended a b p → earliest a b p ≡ length a
  unfolding earliest
  none_earliest d = first_none (length a) (λ h. not (ready a b p h)) (λ h k l. rw (d h l))

  -- one step of the function
  step : (n g : ℕ) → Earliest a b p g → order_from a b p (suc n) ≡ order_from a b (p ++ (g ∷ [])) n
  unfolding order_from
  step n g e = rw (earliest-is g e, lt-ltb g (length a) e.inside)

  stop : (n : ℕ) → Ended a b p → order_from a b p n ≡ p
  unfolding order_from
  stop zero d = refl
  stop (suc n) d = rw (none_earliest d, le-ltb (length a) (length a) (omega arith))

-- ---- it is an order

module _ (a b : List ℕ) where
  -- every step places a gate that was not placed, so that after n there are enough
  from_placed : (n : ℕ) (p : List ℕ) → Order a b p → length a ≤ length p + n → Placed a b (order_from a b p n)
  unfolding order_from
  from_placed zero p o l =
      ⊎_elim
      (λ e. absurd (omega (arith, order_room o (earliest a b p) e.inside (ready_new a b p (earliest a b p) e.is_ready))))
      (λ d. record { steps = o; ended = d })
      (cases a b p)
  from_placed (suc n) p o l = go (cases a b p) (from_placed n)
    where
      go : Earliest a b p (earliest a b p) ⊎ Ended a b p
          → ((q : List ℕ) → Order a b q → length a ≤ length q + n → Placed a b (order_from a b q n))
          → Placed a b (order_from a b p (suc n))
      go (inl e) ih =
          let g : ℕ = earliest a b p in
          rw (step a b p n g e) (ih (p ++ (g ∷ [])) (next p g o e refl) (omega (arith, longer p g refl)))
      go (inr d) ih = rw (stop a b p (suc n) d) (record { steps = o; ended = d })

  pub order_placed : Placed a b (order_of a b)
  unfolding order_of
  order_placed = from_placed (length a) [] nothing (omega arith)

-- ---- and the only one

-- whatever is placed, the function goes on from there
goes_on_lem : {a b p : List ℕ} → Order a b p → (n : ℕ) → length p + n ≡ length a → order_from a b p n ≡ order_of a b
unfolding order_of
goes_on_lem {a} {b} nothing n l = ap (order_from a b []) (omega arith)
goes_on_lem {a} {b} (next q g o e j) n l =
    rw j (sym (step a b q n g e)) ∙ goes_on_lem o (suc n) (omega (arith, longer q g j))

pub one-order : {a b p : List ℕ} → Placed a b p → p ≡ order_of a b
one-order {a} {b} {p} d =
    sym (stop a b p (length a - length p) d.ended) ∙ goes_on_lem d.steps (length a - length p) (omega (arith, order_most d.steps))

pub same-order : {a b p q : List ℕ} → Placed a b p → Placed a b q → p ≡ q
same-order d e = one-order d ∙ sym (one-order e)

-- what is placed stays
stays : (a b : List ℕ) (n : ℕ) (p : List ℕ) (g : ℕ) → elem p g ≡ true → elem (order_from a b p n) g ≡ true
unfolding order_from
stays a b zero p g e = e
stays a b (suc n) p g e = go (ltb (earliest a b p) (length a)) (stays a b n (p ++ (earliest a b p ∷ [])) g)
  where
    go : (t : Bool) → (elem (p ++ (earliest a b p ∷ [])) g ≡ true → elem (order_from a b (p ++ (earliest a b p ∷ [])) n) g ≡ true)
        → elem (choose t (order_from a b (p ++ (earliest a b p ∷ [])) n) p) g ≡ true
    go true ih = ih (rw (elem_snoc p (earliest a b p) g, e))
    go false ih = e

pub placed_in : {a b p : List ℕ} → Order a b p → (g : ℕ) → elem p g ≡ true → elem (order_of a b) g ≡ true
placed_in {a} {b} {p} o g e =
    rw (← (goes_on_lem o (length a - length p) (omega (arith, order_most o)))) (stays a b (length a - length p) p g e)

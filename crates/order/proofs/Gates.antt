-- The gates of an order: each below the number of gates and after its sources, and none twice.
-- Assumes nothing.
use mathlib.Core.Path.{◌≡◌, refl, sym, ap, ◌∙◌}
use mathlib.Core.Bool.{Bool, true, false}
use mathlib.Core.List.{List, [], ◌∷◌, ◌++◌}
use Prim.Native.Nat.{ℕ, ◌+◌, ◌≤◌, ◌<◌}
use native.Mathlib.Nat.{not-suc-le-zero}
use native.Mathlib.Decide.{ℕ_discrete}
use native.Mathlib.Omega.{arith}
use lib.ListN.{length, get_or, take, length-append, get_or-append}
use lib.Seq.{take-append-le, take_at, get_or_at}
use Rattle.ground.specs.Choose.{one}
use Rattle.ground.specs.Below.{count_below}
use Rattle.ground.specs.Lists.{elem, index_in}
use Rattle.ground.proofs.Counting.{count_none, count_all, count_most, count_more}
use Rattle.ground.proofs.Lists.{elem_other, elem_last, index_at}
use Rattle.order.specs.Order.{Earliest, Order, nothing, next, Source}
use Rattle.order.proofs.Ready.{ready_new, ready_sources}

pub longer : (p : List ℕ) (g : ℕ) {q : List ℕ} → q ≡ p ++ (g ∷ []) → length q ≡ length p + 1
longer p g j = ap length j ∙ length-append p (g ∷ [])

-- ---- how many there are

-- one number more in a list is one more of those below n
pub count_snoc : (n : ℕ) (p : List ℕ) (g : ℕ) → g < n → elem p g ≡ false → count_below n (elem (p ++ (g ∷ []))) ≡ count_below n (elem p) + 1
count_snoc n p g l f =
    count_more n (elem p) (elem (p ++ (g ∷ []))) g l f (λ q m d. sym (elem_other p g q (λ i. d (sym i))))
    ∙ ap (λ (t : Bool). count_below n (elem p) + one t) (elem_last p g)

-- as many gates are placed as the order is long
order_count : {a b p : List ℕ} → Order a b p → count_below (length a) (elem p) ≡ length p
unfolding elem
order_count {a} nothing = count_none (length a) (elem []) (λ k l. refl)
order_count {a} {b} {p} (next q g o e j) =
    rw j (count_snoc (length a) q g e.inside (ready_new a b q g e.is_ready))
    ∙ ap (λ (n : ℕ). n + 1) (order_count o)
    ∙ sym (longer q g j)

module _ {a b p : List ℕ} (o : Order a b p) where
  pub order_most : length p ≤ length a
  order_most = omega (arith, count_most (length a) (elem p), order_count o)

  -- fewer than all, where a gate is left
  pub order_room : (g : ℕ) → g < length a → elem p g ≡ false → length p < length a
  order_room g l f =
      omega (arith, count_most (length a) (elem (p ++ (g ∷ []))), count_snoc (length a) p g l f, order_count o)

  -- all, where none is
  pub order_full : ((g : ℕ) → g < length a → elem p g ≡ true) → length p ≡ length a
  order_full all = sym (order_count o) ∙ count_all (length a) (elem p) all

-- ---- the gate at position i: when it was placed, those before it were

pub moment : {a b p : List ℕ} → Order a b p → (i : ℕ) → i < length p → Earliest a b (take i p) (get_or p i 0)
moment nothing i l = absurd (not-suc-le-zero l)
moment {a} {b} {p} (next q g o e j) i l = rw j (go (ℕ_discrete (length q) i) (moment o i))
  where
    go : Dec (length q ≡ i) → (i < length q → Earliest a b (take i q) (get_or q i 0)) → Earliest a b (take i (q ++ (g ∷ []))) (get_or (q ++ (g ∷ [])) i 0)
    go (yes k) ih = rw (take_at q (g ∷ []) i k, get_or_at q g [] 0 i k) e
    go (no k) ih =
        let m : i < length q = omega (arith, longer q g j) in
        rw (take-append-le i q (g ∷ []) (omega arith), get_or-append q (g ∷ []) 0 i m) (ih m)

module _ {a b p : List ℕ} (o : Order a b p) (i : ℕ) (l : i < length p) where
  pub gate_inside : get_or p i 0 < length a
  gate_inside = (moment o i l).inside

  pub sources_placed : (s : ℕ) → Source a b (get_or p i 0) s → elem (take i p) s ≡ true
  sources_placed s r = ready_sources a b (take i p) (get_or p i 0) s (moment o i l).is_ready r

  pub gate_index : index_in p (get_or p i 0) ≡ i
  gate_index = index_at p i l (ready_new a b (take i p) (get_or p i 0) (moment o i l).is_ready)

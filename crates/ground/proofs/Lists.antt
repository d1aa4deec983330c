-- What stands in a list and where, and the list of the numbers that pass a test, built by a loop.
-- Assumes nothing.
use mathlib.Core.Path.{◌≡◌, refl, sym, ap, ◌∙◌}
use mathlib.Core.Bool.{Bool, true, false, ◌||◌, or-true, or-false, or_assoc, false≢true}
use mathlib.Core.List.{List, [], ◌∷◌, ◌++◌, append-nil}
use Prim.Native.Nat.{ℕ, zero, suc, ◌+◌, ◌<◌}
use native.Mathlib.Decide.{ℕ_discrete}
use native.Mathlib.Nat.{le_of_suc-le-suc, not-suc-le-zero}
use native.Mathlib.Numerals.{add-one}
use native.Mathlib.Omega.{arith}
use lib.Dec.{eqb}
use lib.ListN.{length, get_or, take, set, length-append}
use lib.Seq.{take-suc-set, take-set-le}
use borrow.Author.Tests.{eq-eqb, ne_eqb}
use Rattle.ground.specs.Choose.{choose, one}
use Rattle.ground.specs.Below.{count_below}
use Rattle.ground.specs.Lists.{elem, index_in, collect}
use Rattle.ground.proofs.Tests.{neither}

-- ---- one element more

pub elem_snoc : (l : List ℕ) (y x : ℕ) → elem (l ++ (y ∷ [])) x ≡ (elem l x || eqb y x)
unfolding elem
elem_snoc [] y x = or-false (eqb y x)
elem_snoc (z ∷ l) y x = ap (λ (t : Bool). eqb z x || t) (elem_snoc l y x) ∙ sym (or_assoc (eqb z x) (elem l x) (eqb y x))

pub elem_other : (l : List ℕ) (y x : ℕ) → (y ≡ x → ⊥) → elem (l ++ (y ∷ [])) x ≡ elem l x
elem_other l y x n = elem_snoc l y x ∙ ap (λ (t : Bool). elem l x || t) (ne_eqb y x n) ∙ or-false (elem l x)

pub elem_last : (l : List ℕ) (y : ℕ) → elem (l ++ (y ∷ [])) y ≡ true
elem_last l y = elem_snoc l y y ∙ ap (λ (t : Bool). elem l y || t) (eq-eqb y y refl) ∙ or-true (elem l y)

-- ---- where an element stands

pub record At (l : List ℕ) (i x : ℕ) : Type 0 where
  pub below : index_in l x < i
  pub is : get_or l (index_in l x) 0 ≡ x

pub index_in_lem : (l : List ℕ) (i x : ℕ) → elem (take i l) x ≡ true → At l i x
unfolding elem index_in
index_in_lem [] zero x e = absurd (false≢true e)
index_in_lem [] (suc i) x e = absurd (false≢true e)
index_in_lem (y ∷ l) zero x e = absurd (false≢true e)
index_in_lem (y ∷ l) (suc i) x e = go (ℕ_discrete y x) (λ k. index_in_lem l i x k)
  where
    go : Dec (y ≡ x) → (elem (take i l) x ≡ true → At l i x) → At (y ∷ l) (suc i) x
    go (yes q) ih = record { below = rw (eq-eqb y x q) (omega arith); is = rw (eq-eqb y x q) q }
    go (no q) ih =
        let w = ih (simp (ne_eqb y x q) at e) in
        record { below = rw (ne_eqb y x q) (omega (arith, w.below)); is = rw (ne_eqb y x q) w.is }

-- an element that stands nowhere before i stands at i first
pub index_at : (l : List ℕ) (i : ℕ) → i < length l → elem (take i l) (get_or l i 0) ≡ false → index_in l (get_or l i 0) ≡ i
unfolding elem index_in
index_at [] i h e = absurd (not-suc-le-zero h)
index_at (y ∷ l) zero h e = rw (eq-eqb y y refl)
index_at (y ∷ l) (suc i) h e =
    let n = neither (eqb y (get_or l i 0)) (elem (take i l) (get_or l i 0)) e in
    rw n.0 (ap suc (index_at l i (le_of_suc-le-suc h) n.1))

-- ---- collecting

pub collect-length : (test : ℕ → Bool) (f : ℕ → ℕ) (n : ℕ) → length (collect test f n) ≡ count_below n test
unfolding collect count_below
collect-length test f zero = refl
collect-length test f (suc n) = length-append (collect test f n) _ ∙ rw (collect-length test f n, long (test n))
  where
    long : (b : Bool) → length (choose b (f n ∷ []) []) ≡ one b
    long true = refl
    long false = refl

-- a loop has looked at the numbers below k and written d of them to the front of out
pub record Collected (test : ℕ → Bool) (f : ℕ → ℕ) (out : List ℕ) (d k : ℕ) : Type 0 where
  pub count : d ≡ count_below k test
  pub are : take d out ≡ collect test f k

pub collected_none : (test : ℕ → Bool) (f : ℕ → ℕ) (out : List ℕ) → Collected test f out 0 0
unfolding collect count_below
collected_none test f out = record { count = refl; are = refl }

-- x is written after them; it counts where the test holds
pub collected_more : {test : ℕ → Bool} {f : ℕ → ℕ} {out : List ℕ} {d k : ℕ} → Collected test f out d k → d < length out
    → (x : ℕ) → (test k ≡ true → x ≡ f k) → Collected test f (set out d x) (d + one (test k)) (suc k)
unfolding collect count_below
collected_more {test} {f} {out} {d} {k} s room x e = record {
  count = ap (λ (n : ℕ). n + one (test k)) s.count;
  are = go (test k) refl;
}
  where
    go : (b : Bool) → test k ≡ b → take (d + one b) (set out d x) ≡ collect test f k ++ choose b (f k ∷ []) []
    go true q =
        rw (add-one d) (take-suc-set out d x room)
        ∙ ap (λ (l : List ℕ). l ++ (x ∷ [])) s.are
        ∙ ap (λ (y : ℕ). collect test f k ++ (y ∷ [])) (e q)
    go false q = let z : d + 0 ≡ d = omega arith in rw (z, append-nil) (take-set-le d out d x (omega arith) ∙ s.are)

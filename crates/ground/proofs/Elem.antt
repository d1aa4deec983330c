-- What stands in a list stands at one of its places, what stands in a front part of it stands in it, and in two lists joined, in one of them.
-- Assumes nothing.
use mathlib.Core.Path.{◌≡◌, refl, sym, ap, ◌∙◌}
use mathlib.Core.Bool.{Bool, true, ◌||◌, or-true, or_assoc}
use mathlib.Core.List.{List, [], ◌∷◌, ◌++◌}
use Prim.Native.Nat.{ℕ, zero, suc, ◌<◌}
use native.Mathlib.Nat.{not-suc-le-zero, le_of_suc-le-suc}
use native.Mathlib.Omega.{arith}
use lib.Dec.{eqb}
use lib.ListN.{length, get_or, take, drop, take-append-drop}
use lib.Seq.{take_all}
use borrow.Author.Tests.{eq-eqb}
use Rattle.ground.specs.Lists.{elem, index_in}
use Rattle.ground.proofs.Lists.{At, index_in_lem}

pub elem_at : (l : List ℕ) (k : ℕ) → k < length l → elem l (get_or l k 0) ≡ true
unfolding elem
elem_at [] k h = absurd (not-suc-le-zero h)
elem_at (y ∷ l) zero h = rw (eq-eqb y y refl)
elem_at (y ∷ l) (suc k) h = rw (elem_at l k (le_of_suc-le-suc h), or-true)

-- and where first
pub index_of : (l : List ℕ) (x : ℕ) → elem l x ≡ true → At l (length l) x
index_of l x e = index_in_lem l (length l) x (ap (λ (m : List ℕ). elem m x) (take_all (length l) l (omega arith)) ∙ e)

pub elem_place : (l : List ℕ) (x : ℕ) → elem l x ≡ true → (k : ℕ) × (k < length l) × (get_or l k 0 ≡ x)
elem_place l x e = let a = index_of l x e in (index_in l x, a.below, a.is)

pub elem_append : (l m : List ℕ) (x : ℕ) → elem (l ++ m) x ≡ (elem l x || elem m x)
unfolding elem
elem_append [] m x = refl
elem_append (y ∷ l) m x = ap (λ (t : Bool). eqb y x || t) (elem_append l m x) ∙ sym (or_assoc (eqb y x) (elem l x) (elem m x))

pub elem_front : (l : List ℕ) (i x : ℕ) → elem (take i l) x ≡ true → elem l x ≡ true
elem_front l i x e =
    ap (λ (m : List ℕ). elem m x) (sym (take-append-drop i l))
    ∙ elem_append (take i l) (drop i l) x
    ∙ ap (λ (t : Bool). t || elem (drop i l) x) e

-- A loop that writes f of each element of a list.
-- Assumes nothing.
use mathlib.Core.Path.{◌≡◌, refl, sym, ap, ◌∙◌}
use mathlib.Core.List.{List, [], ◌∷◌, ◌++◌, map, map-append}
use Prim.Native.Nat.{ℕ, ◌+◌, ◌≤◌, ◌<◌}
use native.Mathlib.Numerals.{add-one}
use native.Mathlib.Omega.{arith}
use lib.ListN.{length, get_or, take, set, length-set}
use lib.Seq.{take-suc, take-suc-set, take_all}

pub record Mapped (f : ℕ → ℕ) (l out : List ℕ) (u : ℕ) : Type 0 where
  pub at_most : u ≤ length l
  pub long : length out ≡ length l
  pub done : take u out ≡ map f (take u l)

pub mapped_none : (f : ℕ → ℕ) {l out : List ℕ} → length out ≡ length l → Mapped f l out 0
mapped_none f e = record { at_most = omega arith; long = e; done = refl }

module _ {f : ℕ → ℕ} {l out : List ℕ} {u : ℕ} (m : Mapped f l out u) where
  pub mapped_more : u < length l → (v : ℕ) → v ≡ f (get_or l u 0) → Mapped f l (set out u v) (u + 1)
  mapped_more h v e = record {
    at_most = omega arith;
    long = length-set out u v ∙ m.long;
    done =
        rw (add-one u)
        (take-suc-set out u v (omega (arith, m.long))
        ∙ ap (λ (x : List ℕ). x ++ (v ∷ [])) m.done
        ∙ ap (λ (x : ℕ). map f (take u l) ++ (x ∷ [])) e
        ∙ sym (ap (map f) (take-suc l u 0 h) ∙ map-append f (take u l) (get_or l u 0 ∷ [])));
  }

  pub mapped_all : length l ≤ u → out ≡ map f l
  mapped_all h = sym (take_all u out (omega (arith, m.long))) ∙ m.done ∙ ap (map f) (take_all u l h)

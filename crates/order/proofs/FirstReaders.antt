-- The loop of `readers`, from the last gate down: what is written is right for the gates passed.
-- Assumes nothing.
use mathlib.Core.Path.{◌≡◌, sym}
use mathlib.Core.Logic.{◌⊎◌, ⊎_elim}
use mathlib.Core.List.{List}
use Prim.Native.Nat.{ℕ, ◌-◌, ◌≤◌, ◌<◌}
use native.Mathlib.Decide.{ℕ_discrete}
use native.Mathlib.Omega.{arith}
use lib.ListN.{length, get_or, set, length-set}
use lib.Seq.{get_or-set_same, get_or-set_other}
use Rattle.order.specs.Owed.{Back}

-- right for the gates from h on
pub record ReadersFrom (a b reader : List ℕ) (h : ℕ) : Type 0 where
  pub long : length reader ≡ length a
  pub back : (k g : ℕ) → h ≤ k → k < length a → (get_or a k 0 ≡ g) ⊎ (get_or b k 0 ≡ g) → g < length a → get_or reader g 0 ≤ k

pub start : {a b reader : List ℕ} → length reader ≡ length a → ReadersFrom a b reader (length a)
start e = record { long = e; back = λ k g l h s j. absurd (omega arith) }

pub finished : {a b reader : List ℕ} {h : ℕ} → ReadersFrom a b reader h → h ≤ 0 → Back a b reader
finished f z = λ k g l s j. f.back k g (omega arith) l s j

module _ {a b reader : List ℕ} {h : ℕ} (f : ReadersFrom a b reader h) (z : 0 < h) where
  i : ℕ
  i = h - 1

  pub more : ReadersFrom a b (set (set reader (get_or a (h - 1) 0) (h - 1)) (get_or b (h - 1) 0) (h - 1)) (h - 1)
  unfolding i
  more = record {
    long = simp length-set f.long;
    back = λ k g l m s j. go k g l m s j (ℕ_discrete (get_or b i 0) g) (ℕ_discrete (get_or a i 0) g);
  }
    where
      r1 : List ℕ
      r1 = set reader (get_or a i 0) i

      go : (k g : ℕ) → i ≤ k → k < length a → (get_or a k 0 ≡ g) ⊎ (get_or b k 0 ≡ g) → g < length a
          → Dec (get_or b i 0 ≡ g) → Dec (get_or a i 0 ≡ g) → get_or (set r1 (get_or b i 0) i) g 0 ≤ k
      go k g l m s j (yes e) d = rw (e, get_or-set_same r1 g i 0 (simp length-set (omega arith))) l
      go k g l m s j (no n) (yes e) = rw (get_or-set_other r1 (get_or b i 0) g i 0 (λ x. n (sym x)), e, get_or-set_same reader g i 0 (omega arith)) l
      go k g l m s j (no n) (no e) =
          rw (get_or-set_other r1 (get_or b i 0) g i 0 (λ x. n (sym x)), get_or-set_other reader (get_or a i 0) g i 0 (λ x. e (sym x)))
          (f.back k g (later (ℕ_discrete i k)) m s j)
        where
          later : Dec (i ≡ k) → h ≤ k
          later (yes q) = absurd (⊎_elim (λ x. e (rw q x)) (λ x. n (rw q x)) s)
          later (no q) = omega arith

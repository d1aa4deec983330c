-- Laws of tests over lists, joined, gathered and mapped.
-- Assumes nothing.
use mathlib.Core.Path.{◌≡◌, refl, sym, ◌∙◌}
use mathlib.Core.Logic.{⊎_elim}
use mathlib.Core.Bool.{Bool, true, false, ◌&&◌, ◌||◌}
use mathlib.Core.List.{List, [], ◌∷◌, ◌++◌, map}
use Prim.Native.Nat.{ℕ, zero, suc, ◌<◌}
use native.Mathlib.Nat.{not-suc-le-zero, eq-or-lt_of_le, le_of_suc-le-suc}
use native.Mathlib.Omega.{arith}
use Rattle.ground.specs.Lists.{gather}
use Rattle.ground.proofs.Tests.{both, and_both}
use Rattle.cnf.specs.Lists.{any_of, all_of}

and_assoc : (a b c : Bool) → (a && (b && c)) ≡ ((a && b) && c)
and_assoc true b c = refl
and_assoc false b c = refl

or_assoc : (a b c : Bool) → (a || (b || c)) ≡ ((a || b) || c)
or_assoc true b c = refl
or_assoc false b c = refl

module _ {A : Type 0} (t : A → Bool) where
  pub all_append : (a b : List A) → all_of t (a ++ b) ≡ (all_of t a && all_of t b)
  all_append [] b = refl
  all_append (x ∷ a) b = rw (all_append a b) (and_assoc (t x) (all_of t a) (all_of t b))

  pub any_append : (a b : List A) → any_of t (a ++ b) ≡ (any_of t a || any_of t b)
  any_append [] b = refl
  any_append (x ∷ a) b = rw (any_append a b) (or_assoc (t x) (any_of t a) (any_of t b))

  pub all-gather : (piece : ℕ → List A) (n : ℕ) → ((k : ℕ) → k < n → all_of t (piece k) ≡ true) → all_of t (gather piece n) ≡ true
  all-gather piece zero h = refl
  all-gather piece (suc n) h =
      all_append (gather piece n) (piece n) ∙ and_both (all-gather piece n (λ k l. h k (omega arith))) (h n (omega arith))

  pub gather-all : (piece : ℕ → List A) (n : ℕ) → all_of t (gather piece n) ≡ true → (k : ℕ) → k < n → all_of t (piece k) ≡ true
  gather-all piece zero e k l = absurd (not-suc-le-zero l)
  gather-all piece (suc n) e k l =
      let h = both (all_of t (gather piece n)) (all_of t (piece n)) (sym (all_append (gather piece n) (piece n)) ∙ e) in
      ⊎_elim (λ q. rw q h.1) (λ m. gather-all piece n h.0 k m) (eq-or-lt_of_le (le_of_suc-le-suc l))

  -- two tests that agree wherever t passes, on a list of which t passes every element
  module _ (u v : A → Bool) (same : (x : A) → t x ≡ true → u x ≡ v x) where
    pub all_same : (l : List A) → all_of t l ≡ true → all_of u l ≡ all_of v l
    all_same [] e = refl
    all_same (x ∷ l) e = let h = both (t x) (all_of t l) e in rw (same x h.0, all_same l h.1)

    pub any_same : (l : List A) → all_of t l ≡ true → any_of u l ≡ any_of v l
    any_same [] e = refl
    any_same (x ∷ l) e = let h = both (t x) (all_of t l) e in rw (same x h.0, any_same l h.1)

  -- and two functions that do
  pub map_same : {B : Type 0} (f g : A → B) → ((x : A) → t x ≡ true → f x ≡ g x) → (l : List A) → all_of t l ≡ true → map f l ≡ map g l
  map_same f g same [] e = refl
  map_same f g same (x ∷ l) e = let h = both (t x) (all_of t l) e in rw (same x h.0, map_same f g same l h.1)

-- a weaker test
pub all_weaker : {A : Type 0} (t u : A → Bool) → ((x : A) → t x ≡ true → u x ≡ true) → (l : List A) → all_of t l ≡ true → all_of u l ≡ true
all_weaker t u h l e = all_same t u t (λ x q. h x q ∙ sym q) l e ∙ e

-- of mapped elements
module _ {A B : Type 0} (t : B → Bool) (f : A → B) where
  pub all_map : (l : List A) → all_of t (map f l) ≡ all_of (λ x. t (f x)) l
  all_map [] = refl
  all_map (x ∷ l) = rw (all_map l)

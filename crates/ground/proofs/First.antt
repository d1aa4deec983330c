-- The lowest place at which a test fails: `first_not` is that place, or the number of places.
-- Assumes nothing.
use mathlib.Core.Path.{◌≡◌, refl, sym, ◌∙◌}
use mathlib.Core.Logic.{◌⊎◌, inl, inr, ⊎_elim}
use mathlib.Core.Bool.{Bool, true, false, true≢false}
use Prim.Native.Nat.{ℕ, zero, suc, ◌+◌, ◌≤◌, ◌<◌}
use native.Mathlib.Nat.{eq-or-lt_of_le, zero-add}
use native.Mathlib.Omega.{arith}
use lib.Dec.{ltb}
use borrow.Author.Tests.{ltb-true, ltb-false}
use Rattle.std.specs.Prelude.{Some, None}
use Rattle.std.specs.Option.{unwrap_or}
use Rattle.ground.specs.Choose.{choose}
use Rattle.ground.specs.Below.{first_from, first_not, first_failing}
use Rattle.ground.proofs.Tests.{either}

-- the test holds at every place from `from` on and below k
abbrev pub Every : (ℕ → Bool) → ℕ → ℕ → Type 0
Every t from k = (j : ℕ) → from ≤ j → j < k → t j ≡ true

-- k is the lowest place at which it fails, from `from` on and below n
pub record Lowest (t : ℕ → Bool) (from n k : ℕ) : Type 0 where
  pub above : from ≤ k
  pub inside : k < n
  pub bad : t k ≡ false
  pub below : Every t from k

every_more : (t : ℕ → Bool) (k n : ℕ) → t k ≡ true → Every t (suc k) n → Every t k n
every_more t k n e h j l b = ⊎_elim (λ q. rw (← q) e) (λ g. h j g b) (eq-or-lt_of_le l)

decide : (t : ℕ → Bool) (k n : ℕ) → Lowest t k (k + n) (first_from t k n) ⊎ ((first_from t k n ≡ k + n) × Every t k (k + n))
decide t k zero = inr (omega arith, λ j l h. absurd (omega arith))
decide t k (suc n) = go (t k) refl (decide t (suc k) n)
  where
    go : (b : Bool)
        → t k ≡ b
        → Lowest t (suc k) (suc k + n) (first_from t (suc k) n) ⊎ ((first_from t (suc k) n ≡ suc k + n) × Every t (suc k) (suc k + n))
        → Lowest t k (k + suc n) (choose b (first_from t (suc k) n) k) ⊎ ((choose b (first_from t (suc k) n) k ≡ k + suc n) × Every t k (k + suc n))
    go false e d = inl (record { above = omega arith; inside = omega arith; bad = e; below = λ j l h. absurd (omega arith) })
    go true e (inl s) =
        inl (record { above = omega arith; inside = omega arith; bad = s.bad; below = every_more t k _ e s.below })
    go true e (inr a) = inr (omega (arith, a.0), λ j l h. every_more t k (suc k + n) e a.1 j l (omega arith))

module _ (n : ℕ) (t : ℕ → Bool) where
  pub first_cases : Lowest t 0 n (first_not n t) ⊎ ((first_not n t ≡ n) × Every t 0 n)
  unfolding first_not
  first_cases = rw zero-add at (decide t 0 n)

  lowest-one : (k l : ℕ) → Lowest t 0 n k → Lowest t 0 n l → k ≤ l
  lowest-one k l p q =
      ⊎_elim (λ h. absurd (true≢false (sym (p.below l (omega arith) h) ∙ q.bad))) (λ h. h) (either l k)

  pub first_is : {k : ℕ} → Lowest t 0 n k → first_not n t ≡ k
  first_is {k} p =
      ⊎_elim
      (λ q. let a = lowest-one k _ p q in let b = lowest-one _ k q p in omega arith)
      (λ a. absurd (true≢false (sym (a.1 k (omega arith) p.inside) ∙ p.bad)))
      first_cases

  pub first_none : Every t 0 n → first_not n t ≡ n
  first_none h = ⊎_elim (λ q. absurd (true≢false (sym (h _ (omega arith) q.inside) ∙ q.bad))) (λ a. a.0) first_cases

-- two tests that agree below n
pub first_same : (n : ℕ) (t u : ℕ → Bool) → ((k : ℕ) → k < n → t k ≡ u k) → first_not n t ≡ first_not n u
first_same n t u h =
    ⊎_elim
    (λ q. sym (first_is n u (record {
      above = q.above;
      inside = q.inside;
      bad = sym (h _ q.inside) ∙ q.bad;
      below = λ j l b. sym (h j (omega (arith, q.inside))) ∙ q.below j l b;
    })))
    (λ a. a.0 ∙ sym (first_none n u (λ j l b. sym (h j b) ∙ a.1 j l b)))
    (first_cases n t)

-- what an answer of `first_failing` says
module _ (n : ℕ) (t : ℕ → Bool) where
  pub or-failing : unwrap_or (first_failing n t) n ≡ first_not n t
  or-failing = go (ltb (first_not n t) n) refl (first_cases n t)
    where
      go : (b : Bool) → ltb (first_not n t) n ≡ b → Lowest t 0 n (first_not n t) ⊎ ((first_not n t ≡ n) × Every t 0 n) → unwrap_or (choose b (Some (first_not n t)) None) n ≡ first_not n t
      go true l d = refl
      go false l (inl p) = absurd (omega (arith, ltb-false (first_not n t) n l, p.inside))
      go false l (inr a) = sym a.0

  pub some_fails : {k : ℕ} → Some k ≡ first_failing n t → (k ≡ first_not n t) × (k < n)
  some_fails {k} e = go (ltb (first_not n t) n) refl e
    where
      go : (b : Bool) → ltb (first_not n t) n ≡ b → Some k ≡ choose b (Some (first_not n t)) None → (k ≡ first_not n t) × (k < n)
      go true l q = let is : k ≡ first_not n t = cc in (is, rw is (ltb-true (first_not n t) n l))
      go false l q = absurd (cc)

  pub none_fails : None ≡ first_failing n t → n ≤ first_not n t
  none_fails e = go (ltb (first_not n t) n) refl e
    where
      go : (b : Bool) → ltb (first_not n t) n ≡ b → None ≡ choose b (Some (first_not n t)) None → n ≤ first_not n t
      go true l q = absurd (cc)
      go false l q = ltb-false (first_not n t) n l

-- ---- a loop that counts up to the first place at which the test fails

pub every_none : (t : ℕ → Bool) → Every t 0 0
every_none t j l h = absurd (omega arith)

pub every_next : {t : ℕ → Bool} {k : ℕ} → Every t 0 k → t k ≡ true → Every t 0 (k + 1)
every_next {t} {k} h e j l b = ⊎_elim (λ g. h j l g) (λ g. let q : j ≡ k = omega arith in rw q e) (either j k)

pub stopped : {t : ℕ → Bool} {n k : ℕ} → k < n → Every t 0 k → t k ≡ false → k ≡ first_not n t
stopped {t} {n} {k} l h e = sym (first_is n t (record { above = omega arith; inside = l; bad = e; below = h }))

pub passed : {t : ℕ → Bool} {n k : ℕ} → n ≤ k → Every t 0 k → n ≡ first_not n t
passed {t} {n} {k} l h = sym (first_none n t (λ j a b. h j a (omega arith)))

-- The last number below n that passes a test, and what a wider test says about it.
-- Assumes nothing.
use mathlib.Core.Path.{◌≡◌, refl, sym, ap, ◌∙◌}
use mathlib.Core.Bool.{Bool, true, false, not, ◌||◌, or-true, or-false, true≢false}
use Prim.Native.Nat.{ℕ, zero, suc, ◌≤◌, ◌<◌}
use native.Mathlib.Omega.{arith}
use lib.Dec.{eqb}
use borrow.Author.Tests.{ne_eqb}
use Rattle.ground.specs.Choose.{choose}
use Rattle.ground.specs.Below.{any_below}
use Rattle.ground.proofs.Below.{any_some}
use Rattle.names.specs.Names.{last_with}

pub record Last (g : ℕ → Bool) (q d : ℕ) : Type 0 where
  pub passes : g d ≡ true
  pub below : d < q

pub last_is : (g : ℕ → Bool) (q d : ℕ) → last_with g q ≡ suc d → Last g q d
unfolding last_with
last_is g zero d e = absurd (omega arith)
last_is g (suc q) d e = go (g q) refl e (last_is g q d)
  where
    go : (t : Bool) → g q ≡ t → choose t (suc q) (last_with g q) ≡ suc d → (last_with g q ≡ suc d → Last g q d) → Last g (suc q) d
    go true i k ih = let j : q ≡ d = omega arith in record { passes = rw (← j) i; below = omega arith }
    go false i k ih = let w = ih k in record { passes = w.passes; below = omega arith }

pub last_most : (g : ℕ → Bool) (q : ℕ) → last_with g q ≤ q
unfolding last_with
last_most g zero = omega arith
last_most g (suc q) = go (g q) (last_most g q)
  where
    go : (b : Bool) → last_with g q ≤ q → choose b (suc q) (last_with g q) ≤ suc q
    go true i = omega arith
    go false i = omega arith

-- ---- the last that passes a test is found among those that pass a wider one

module _ (f g : ℕ → Bool) (wider : (d : ℕ) → f d ≡ true → g d ≡ true) where
  -- what fails the wider test fails
  fails : (d : ℕ) → g d ≡ false → f d ≡ false
  fails d e = go (f d) refl
    where
      go : (t : Bool) → f d ≡ t → t ≡ false
      go true i = sym (wider d i) ∙ e
      go false i = refl

  pub skip_none : (q : ℕ) → last_with g q ≡ 0 → last_with f q ≡ 0
  unfolding last_with
  skip_none zero e = refl
  skip_none (suc q) e = go (g q) refl e (skip_none q)
    where
      go : (t : Bool) → g q ≡ t → choose t (suc q) (last_with g q) ≡ 0 → (last_with g q ≡ 0 → last_with f q ≡ 0) → choose (f q) (suc q) (last_with f q) ≡ 0
      go true i k ih = absurd (omega arith)
      go false i k ih = rw (fails q i) (ih k)

  pub skip : (q d : ℕ) → last_with g q ≡ suc d → last_with f q ≡ choose (f d) (suc d) (last_with f d)
  unfolding last_with
  skip zero d e = absurd (omega arith)
  skip (suc q) d e = go (g q) refl e (skip q d)
    where
      go : (t : Bool)
          → g q ≡ t
          → choose t (suc q) (last_with g q) ≡ suc d
          → (last_with g q ≡ suc d → last_with f q ≡ choose (f d) (suc d) (last_with f d))
          → choose (f q) (suc q) (last_with f q) ≡ choose (f d) (suc d) (last_with f d)
      go true i k ih = let j : q ≡ d = omega arith in rw j refl
      go false i k ih = rw (fails q i) (ih k)

-- ---- whether there is one

pub last_any : (f : ℕ → Bool) (n : ℕ) → not (eqb (last_with f n) 0) ≡ any_below n f
unfolding last_with
last_any f zero = refl
last_any f (suc n) = go (f n) (last_any f n)
  where
    go : (b : Bool) → not (eqb (last_with f n) 0) ≡ any_below n f → not (eqb (choose b (suc n) (last_with f n)) 0) ≡ (any_below n f || b)
    go true ih = rw (ne_eqb (suc n) 0 (omega arith), or-true)
    go false ih = rw or-false ih

-- ---- where there is but one

pub last_only : (f : ℕ → Bool) (n d : ℕ) → d < n → f d ≡ true → ((e : ℕ) → e < n → f e ≡ true → e ≡ d) → last_with f n ≡ suc d
last_only f n d l p only = go (last_with f n) refl
  where
    go : (r : ℕ) → last_with f n ≡ r → r ≡ suc d
    go zero e = absurd (true≢false (sym (any_some n f d l p) ∙ sym (last_any f n) ∙ ap (λ (x : ℕ). not (eqb x 0)) e))
    go (suc k) e = let w = last_is f n k e in ap suc (only k w.below w.passes)

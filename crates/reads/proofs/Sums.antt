-- Sums over the numbers below a bound: one place of them, two places, and a place that adds something.
-- Assumes nothing.
use mathlib.Core.Path.{◌≡◌, refl}
use mathlib.Core.Logic.{◌⊎◌, inl, inr}
use mathlib.Core.Bool.{Bool}
use Prim.Native.Nat.{ℕ, zero, suc, ◌+◌, ◌≤◌, ◌<◌}
use native.Mathlib.Decide.{ℕ_discrete}
use native.Mathlib.Nat.{not-suc-le-zero}
use native.Mathlib.Omega.{arith}
use Rattle.ground.specs.Choose.{one}
use Rattle.ground.specs.Below.{count_below}
use Rattle.ground.proofs.Tests.{either}
use Rattle.reads.specs.Reads.{sum_below}

-- one of the places
pub sum_one : (n : ℕ) (f : ℕ → ℕ) (i : ℕ) → i < n → f i ≤ sum_below n f
unfolding sum_below
sum_one zero f i l = absurd (not-suc-le-zero l)
sum_one (suc n) f i l = go (ℕ_discrete i n) (sum_one n f i)
  where
    go : Dec (i ≡ n) → (i < n → f i ≤ sum_below n f) → f i ≤ sum_below n f + f n
    go (yes e) ih = rw e (omega arith)
    go (no d) ih = omega (arith, ih (omega arith))

-- two of them
pub sum_two : (n : ℕ) (f : ℕ → ℕ) (i j : ℕ) → i < j → j < n → f i + f j ≤ sum_below n f
unfolding sum_below
sum_two zero f i j a b = absurd (not-suc-le-zero b)
sum_two (suc n) f i j a b = go (ℕ_discrete j n) (sum_two n f i j a)
  where
    go : Dec (j ≡ n) → (j < n → f i + f j ≤ sum_below n f) → f i + f j ≤ sum_below n f + f n
    go (yes e) ih = rw e (omega (arith, sum_one n f i (omega arith)))
    go (no d) ih = omega (arith, ih (omega arith))

-- where there is something, some place adds it
pub sum_some : (n : ℕ) (f : ℕ → ℕ) → 1 ≤ sum_below n f → (i : ℕ) × (i < n) × (1 ≤ f i)
unfolding sum_below
sum_some zero f h = absurd (omega arith)
sum_some (suc n) f h = go (either 0 (f n)) (sum_some n f)
  where
    go : (0 < f n) ⊎ (f n ≤ 0) → (1 ≤ sum_below n f → (i : ℕ) × (i < n) × (1 ≤ f i)) → (i : ℕ) × (i < suc n) × (1 ≤ f i)
    go (inl l) ih = (n, omega arith, l)
    go (inr l) ih = let w = ih (omega arith) in (w.0, omega (arith, w.1), w.2)

-- one of n places adds two, or two of them add something
abbrev pub TwoBelow : ℕ → (ℕ → ℕ) → Type 0
TwoBelow n f = ((i : ℕ) × (i < n) × (2 ≤ f i)) ⊎ ((i : ℕ) × (j : ℕ) × (i < j) × (j < n) × (1 ≤ f i) × (1 ≤ f j))

-- so it is where two or more are
pub sum_branches : (n : ℕ) (f : ℕ → ℕ) → 2 ≤ sum_below n f → TwoBelow n f
unfolding sum_below
sum_branches zero f h = absurd (omega arith)
sum_branches (suc n) f h = go (either 1 (f n)) (either 0 (f n)) (sum_branches n f)
  where
    wider : TwoBelow n f → TwoBelow (suc n) f
    wider (inl w) = inl (w.0, omega (arith, w.1), w.2)
    wider (inr w) = inr (w.0, w.1, w.2, omega (arith, w.3), w.4, w.5)

    go : (1 < f n) ⊎ (f n ≤ 1) → (0 < f n) ⊎ (f n ≤ 0) → (2 ≤ sum_below n f → TwoBelow n f) → TwoBelow (suc n) f
    go (inl l) m ih = inl (n, omega arith, l)
    go (inr l) (inl m) ih = let w = sum_some n f (omega arith) in inr (w.0, n, w.1, omega arith, w.2, m)
    go (inr l) (inr m) ih = wider (ih (omega arith))

-- a count is a sum
pub count_sum : (n : ℕ) (t : ℕ → Bool) → count_below n t ≡ sum_below n (λ k. one (t k))
unfolding count_below sum_below
count_sum zero t = refl
count_sum (suc n) t = rw (count_sum n t)

-- A test at the numbers below n: at each, at some, at how many, and the first at which it fails.
-- The first three are built from the top, as a loop that counts up meets them.
-- Assumes nothing.
use Rattle.std.specs.Prelude.{ℕ, zero, suc, ◌+◌, Bool, true, false, ◌&&◌, ◌||◌, ltb, Option, Some, None}
use Rattle.ground.specs.Choose.{choose, one}

abbrev pub all_below : ℕ → (ℕ → Bool) → Bool
all_below zero t = true
all_below (suc n) t = all_below n t && t n

abbrev pub any_below : ℕ → (ℕ → Bool) → Bool
any_below zero t = false
any_below (suc n) t = any_below n t || t n

unfoldable pub count_below : ℕ → (ℕ → Bool) → ℕ
count_below zero t = 0
count_below (suc n) t = count_below n t + one (t n)

-- the first of the places k, k + 1, .. at which the test fails, of so many; the place after them where it fails at none
abbrev pub first_from : (ℕ → Bool) → ℕ → ℕ → ℕ
first_from t k zero = k
first_from t k (suc n) = choose (t k) (first_from t (suc k) n) k

-- the lowest place below n at which the test fails, or n
unfoldable pub first_not : ℕ → (ℕ → Bool) → ℕ
first_not n t = first_from t 0 n

-- the lowest place below n at which the test fails, if there is one
abbrev pub first_failing : ℕ → (ℕ → Bool) → Option ℕ
first_failing n t = choose (ltb (first_not n t) n) (Some (first_not n t)) None

-- Lines counted in steps of n: line m of step i is line i n + m.
-- Assumes nothing.
use mathlib.Core.Path.{◌≡◌, subst, ◌∙◌}
use Prim.Native.Nat.{ℕ, zero, suc, ◌+◌, ◌*◌, ◌/◌, ◌%◌, ◌<◌}
use native.Mathlib.Nat.{add-zero, suc-mul, mul-le-mul_right, mul-add-div_right, mul-add-mod_self_right, div-eq_of_lt, mod-eq_of_lt, mod-lt, div-add-mod', div-lt_iff_lt-mul}
use native.Mathlib.Omega.{arith}

-- the step and the place of a line
module _ (n i m : ℕ) (l : m < n) where
  pub step_of : (i * n + m) / n ≡ i
  step_of = mul-add-div_right (omega arith) i m ∙ rw (div-eq_of_lt l) (add-zero i)

  pub place_of : (i * n + m) % n ≡ m
  place_of = mul-add-mod_self_right i n m ∙ mod-eq_of_lt l

  -- k steps have it
  pub line_inside : (k : ℕ) → i < k → i * n + m < k * n
  line_inside k h = omega (arith, mul-le-mul_right n h, suc-mul i n)

-- what holds at each place of each step holds at each line
pub by_steps : (P : ℕ → Type 0) (n k : ℕ) → ((i m : ℕ) → i < k → m < n → P (i * n + m)) → (j : ℕ) → j < k * n → P j
by_steps P n k h j l =
    let some : 0 < n = positive n l in
    subst P (div-add-mod' j n) (h (j / n) (j % n) ((div-lt_iff_lt-mul some).1 l) (mod-lt j some))
  where
    positive : (n : ℕ) → j < k * n → 0 < n
    positive zero l = absurd (omega arith)
    positive (suc n) l = omega arith

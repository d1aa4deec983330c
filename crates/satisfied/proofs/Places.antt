-- The j-th number below n at which a test holds: the place of an input, or of an output, by its number.
-- Assumes nothing.
use mathlib.Core.Path.{◌≡◌, refl}
use mathlib.Core.Logic.{⊎_elim}
use mathlib.Core.Bool.{Bool, true, ◌&&◌, and-false}
use Prim.Native.Nat.{ℕ, zero, suc, ◌<◌}
use native.Mathlib.Nat.{not-suc-le-zero, eq-or-lt_of_le, le_of_suc-le-suc}
use native.Mathlib.Omega.{arith}
use lib.Dec.{eqb}
use borrow.Author.Tests.{eq-eqb, ne_eqb}
use Rattle.ground.specs.Choose.{choose}
use Rattle.ground.specs.Below.{count_below}
use Rattle.ground.proofs.Counting.{count_below_lem, nth}

-- from the top, as the counting goes
unfoldable pub clause_place : (ℕ → Bool) → ℕ → ℕ → ℕ
clause_place t zero j = 0
clause_place t (suc n) j = choose (t n && eqb (count_below n t) j) n (clause_place t n j)

module _ (t : ℕ → Bool) where
  -- the place of a number at which the test holds is that number
  pub place_is : (n k : ℕ) → k < n → t k ≡ true → clause_place t n (count_below k t) ≡ k
  unfolding clause_place
  place_is zero k l e = absurd (not-suc-le-zero l)
  place_is (suc n) k l e =
      ⊎_elim
      (λ q. rw (← q, e, eq-eqb (count_below k t) (count_below k t) refl))
      (λ m. rw (ne_eqb (count_below n t) (count_below k t) (λ q. omega (arith, count_below_lem t k n m e)), and-false) (place_is n k m e))
      (eq-or-lt_of_le (le_of_suc-le-suc l))

  -- so what holds at each such number holds at each place
  pub at_places : (P : ℕ → Type 0) (n : ℕ) → ((k : ℕ) → k < n → t k ≡ true → P (count_below k t)) → (j : ℕ) → j < count_below n t → P j
  at_places P n h j l = let w = nth t n j l in rw w.before at (h w.place w.below w.passes)

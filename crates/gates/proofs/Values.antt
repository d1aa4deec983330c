-- Which of 0, 1 and X a number counts as.
-- Assumes nothing.
use mathlib.Core.Path.{◌≡◌, refl}
use mathlib.Core.Bool.{false}
use Prim.Native.Nat.{ℕ, zero, suc, ◌≤◌, ◌<◌}
use native.Mathlib.Omega.{arith}
use borrow.Author.Tests.{le-ltb}
use Rattle.gates.specs.Gate.{known, three_of, Refines}

pub unknown : (a : ℕ) → known (suc (suc a)) ≡ false
unknown a = le-ltb (suc (suc a)) 2 (omega arith)

pub three_small : (a : ℕ) → three_of a < 3
unfolding three_of
three_small zero = omega arith
three_small (suc zero) = omega arith
three_small (suc (suc a)) = rw (unknown a) (omega arith)

-- what is 0, 1 or X already counts as itself
pub three_own : (a : ℕ) → a ≤ 2 → a ≡ three_of a
unfolding three_of
three_own zero h = refl
three_own (suc zero) h = refl
three_own (suc (suc zero)) h = refl
three_own (suc (suc (suc a))) h = absurd (omega arith)

pub three_known : (a : ℕ) → a < 2 → three_of a < 2
unfolding three_of
three_known zero h = omega arith
three_known (suc zero) h = omega arith
three_known (suc (suc a)) h = absurd (omega arith)

pub three_refines : (x y : ℕ) → Refines x y → Refines (three_of x) (three_of y)
unfolding three_of
three_refines zero y h l = rw (h (omega arith)) refl
three_refines (suc zero) y h l = rw (h (omega arith)) refl
three_refines (suc (suc x)) y h l = absurd (omega (arith, rw (unknown x) at l))

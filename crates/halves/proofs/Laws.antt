-- The laws of the powers of one half: a product adds exponents, the larger has the smaller exponent, and nothing is rounded.
-- Assumes nothing.
use mathlib.Core.Path.{◌≡◌, refl, sym, ap, ap₂, ◌∙◌}
use mathlib.Core.Bool.{Bool, true, false, not}
use Prim.Native.Nat.{ℕ, zero, suc, ◌+◌, ◌*◌, ◌^◌, ◌≤◌, ◌<◌, min}
use native.Mathlib.Nat.{one-mul, mul-mul-mul_comm, lt_irrefl, lt_of_le_of_lt}
use native.Mathlib.Omega.{arith}
use lib.Dec.{T, ltb, ltb→lt, lt→ltb, nltb→le, not_T}
use lib.Pow.{pow-add, pow_pos, pow_mono, pow-lt}
use borrow.Author.Tests.{ltb-true, ltb-false}
use lib.Ieee.{of_bits, binary64, round, mul, lt}
use lib.Ieee.Bits.{is_true, is_false}
use lib.Ieee.Exact.{HasValue}
use lib.Ieee.Positive.{positive, mul_at}
use Rattle.halves.specs.Half.{half, least, floor_exponent}
use Rattle.halves.specs.Exact.{ExactProduct}
use Rattle.halves.proofs.Value.{half_value, round-half}

half-positive : (n : ℕ) → T (positive (half n))
unfolding half
half-positive zero = tt
half-positive (suc k) = tt

-- ---- products

pub mul-half : (x y : ℕ) → x + y ≤ least → mul binary64 (half x) (half y) ≡ half (x + y)
mul-half x y h =
    mul_at binary64 (half x) (half y) 1 (2 ^ x) 1 (2 ^ y) (half-positive x) (half-positive y) (pow_pos x) (pow_pos y) (half_value x) (half_value y)
    ∙ ap (λ (z : ℕ). round binary64 false 1 z) (sym (pow-add 2 x y))
    ∙ round-half (x + y) h

-- ---- the larger of two

ltb_pow : (x y : ℕ) → ltb (2 ^ y) (2 ^ x) ≡ ltb y x
ltb_pow x y = go (ltb y x) (ltb→lt y x) (nltb→le y x)
  where
    go : (t : Bool) → (T t → y < x) → (T (not t) → x ≤ y) → ltb (2 ^ y) (2 ^ x) ≡ t
    go true h k = is_true (ltb (2 ^ y) (2 ^ x)) (lt→ltb (2 ^ y) (2 ^ x) (pow-lt (h tt)))
    go false h k = is_false (ltb (2 ^ y) (2 ^ x)) (not_T (ltb (2 ^ y) (2 ^ x)) (λ t. lt_irrefl (2 ^ x) (lt_of_le_of_lt (pow_mono (k tt)) (ltb→lt (2 ^ y) (2 ^ x) t))))

pub lt-half : (x y : ℕ) → lt (half x) (half y) ≡ ltb y x
unfolding half lt
lt-half zero zero = refl
lt-half zero (suc y) = ap (λ (z : ℕ). ltb z 1) (one-mul (2 ^ suc y)) ∙ ltb_pow 0 (suc y)
lt-half (suc x) zero = ap (λ (z : ℕ). ltb 1 z) (one-mul (2 ^ suc x)) ∙ ltb_pow (suc x) 0
lt-half (suc x) (suc y) =
    ap (λ (z : ℕ). ltb z (1 * 2 ^ suc x)) (one-mul (2 ^ suc y)) ∙ ap (λ (z : ℕ). ltb (2 ^ suc y) z) (one-mul (2 ^ suc x)) ∙ ltb_pow (suc x) (suc y)

pub smaller_second : (x y : ℕ) → ltb y x ≡ true → min x y ≡ y
smaller_second x y h = omega (arith, ltb-true)

pub smaller_first : (x y : ℕ) → ltb y x ≡ false → min x y ≡ x
smaller_first x y h = omega (arith, ltb-false)

-- ---- the constants of the code

pub one-is : of_bits binary64 4607182418800017408 ≡ half 0
unfolding of_bits half
one-is = refl

pub half_is : of_bits binary64 4602678819172646912 ≡ half 1
unfolding of_bits half
half_is = refl

pub floor_is : of_bits binary64 2355382605114769408 ≡ half floor_exponent
unfolding of_bits half
floor_is = refl

-- ---- exactness

-- the fractions that a power of one half is
as_fraction : (n a b : ℕ) → HasValue (half n) false a b → b ≡ a * 2 ^ n
unfolding half
as_fraction zero a b v = sym (one-mul b) ∙ v.1
as_fraction (suc k) a b v = sym (one-mul b) ∙ v.1

pub fraction_of : (n a b : ℕ) → b ≡ a * 2 ^ n → HasValue (half n) false a b
unfolding half
fraction_of zero a b e = (refl, one-mul b ∙ e)
fraction_of (suc k) a b e = (refl, one-mul b ∙ e)

pub exact-product : (x y : ℕ) → x + y ≤ least → ExactProduct (half x) (half y)
exact-product x y few = record {
  exact = λ a b c d _ _ p q.
      rw (mul-half x y few) (fraction_of (x + y) (a * c) (b * d)
      (ap₂ ◌*◌ (as_fraction x a b p) (as_fraction y c d q) ∙ mul-mul-mul_comm a (2 ^ x) c (2 ^ y) ∙ ap (λ (z : ℕ). a * c * z) (sym (pow-add 2 x y))));
}

-- The laws of fractions: being the same number is an equivalence. Of powers of one half, a product adds the exponents and the larger has the smaller.
-- Assumes nothing.
use mathlib.Core.Path.{◌≡◌, refl, sym, ap, ap₂, ◌∙◌}
use mathlib.Core.Logic.{⊎_elim}
use Prim.Native.Nat.{ℕ, ◌+◌, ◌*◌, ◌^◌, ◌<◌, min}
use native.Mathlib.Nat.{one-mul, mul-mul-mul_comm, mul-pos, mul-le-mul_left, mul-lt-mul_of_pos_left, eq_of_mul-eq-mul_right, eq-zero-or-pos}
use native.Mathlib.Nat.{le_of_lt, min_comm, min-eq_left, min-eq_right}
use native.Mathlib.Omega.{arith}
use lib.Pow.{pow-add, pow_mono, pow-lt}
use borrow.Author.Tests.{le-leb, lt-leb}
use Rattle.ground.proofs.Tests.{either}
use Rattle.halves.specs.Half.{floor_exponent}
use Rattle.exponents.specs.Fraction.{Fraction, Equal, power, product, halved, larger, floored}

pub equal_self : (p : Fraction) → Equal p p
equal_self p = refl

pub equal_back : (p q : Fraction) → Equal p q → Equal q p
equal_back p q e = sym e

pub equal_through : (p q r : Fraction) → Equal p q → Equal q r → Equal p r
equal_through p q r e f =
    eq_of_mul-eq-mul_right q.bottom q.some _ _ (omega (arith, ap (λ (z : ℕ). z * r.bottom) e, ap (λ (z : ℕ). z * p.bottom) f))

-- p is one half to the power of x
pub record Is (p : Fraction) (x : ℕ) : Type 0 where
  pub is : Equal p (power x)

pub power-is : (x : ℕ) → Is (power x) x
power-is x = record { is = equal_self (power x) }

-- so is what is the same number, and two that are so are the same
pub same-is : (p q : Fraction) {x : ℕ} → Equal p q → Is q x → Is p x
same-is p q {x} e b = record { is = equal_through p q (power x) e b.is }

pub both_are : {p q : Fraction} {x : ℕ} → Is p x → Is q x → Equal p q
both_are {p} {q} {x} a b = equal_through p (power x) q a.is (equal_back q (power x) b.is)

-- ---- its bottom is its top, doubled x times

pub bottom_is : {p : Fraction} {x : ℕ} → Is p x → p.bottom ≡ p.top * 2 ^ x
bottom_is {p} a = sym (one-mul p.bottom) ∙ sym a.is

pub is_bottom : (p : Fraction) (x : ℕ) → p.bottom ≡ p.top * 2 ^ x → Is p x
is_bottom p x e = record { is = sym e ∙ sym (one-mul p.bottom) }

top_some : {p : Fraction} {x : ℕ} → Is p x → 0 < p.top
top_some {p} {x} a = ⊎_elim (λ z. absurd (omega (arith, p.some, rw z at (bottom_is a)))) (λ l. l) (eq-zero-or-pos p.top)

module _ {p q : Fraction} {x y : ℕ} (a : Is p x) (b : Is q y) where
  pub product_is : Is (product p q) (x + y)
  product_is =
      is_bottom (product p q) (x + y)
      (ap₂ ◌*◌ (bottom_is a) (bottom_is b) ∙ mul-mul-mul_comm p.top (2 ^ x) q.top (2 ^ y) ∙ rw (pow-add 2 x y))

  -- what the two are compared by
  of_first : q.top * p.bottom ≡ p.top * q.top * 2 ^ x
  of_first = omega (arith, ap (λ (z : ℕ). q.top * z) (bottom_is a))

  of_second : p.top * q.bottom ≡ p.top * q.top * 2 ^ y
  of_second = omega (arith, ap (λ (z : ℕ). p.top * z) (bottom_is b))

  pub larger-is : Is (larger p q) (min x y)
  larger-is =
      ⊎_elim
      (λ l. let h = mul-lt-mul_of_pos_left (pow-lt l) (mul-pos (top_some a) (top_some b)) in
      rw (lt-leb (p.top * q.bottom) (q.top * p.bottom) (omega (arith, of_first, of_second)), min-eq_left (le_of_lt l)) a)
      (λ l. let h = mul-le-mul_left (p.top * q.top) (pow_mono l) in
      rw (le-leb (p.top * q.bottom) (q.top * p.bottom) (omega (arith, of_first, of_second)), min-eq_right l) b)
      (either x y)

module _ {p : Fraction} {x : ℕ} (a : Is p x) where
  pub halved_is : Is (halved p) (x + 1)
  halved_is = product_is a (power-is 1)

  pub floored-is : Is (floored p) (min floor_exponent x)
  floored-is = rw (min_comm floor_exponent x) (larger-is a (power-is floor_exponent))

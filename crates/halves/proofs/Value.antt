-- A float is told by its value: one that is one half to the power of n is `half n`.
-- Assumes nothing.
use mathlib.Core.Path.{◌≡◌, refl, sym, ap, ◌∙◌, subst}
use mathlib.Core.Bool.{Bool, false, ◌&&◌}
use Prim.Native.Nat.{ℕ, zero, suc, ◌+◌, ◌-◌, ◌*◌, ◌%◌, ◌^◌, ◌≤◌, ◌<◌}
use native.Mathlib.Nat.{mul-one, one-mul, zero-mul, mul_assoc, mul_left_comm, mul-pos, zero-lt-suc, lt_irrefl, pow-suc, pow-succ', eq_of_mul-eq-mul_right}
use native.Mathlib.Omega.{arith}
use lib.IntN.{ℤ, pos, negsuc}
use lib.Dec.{T, ltb, leb, eqb, eqb→eq}
use lib.Pow.{pow-add, pow_pos, pow-lt}
use lib.Ieee.{Float, fin, nan, inf, Format, binary64, prec, emax, low, up, down, round, fits}
use lib.Ieee.Fits.{and_l, round-fits, down_pos}
use lib.Ieee.Exact.{HasValue, round_exact}
use Rattle.halves.specs.Half.{half, least}

pub half_value : (n : ℕ) → HasValue (half n) false 1 (2 ^ n)
unfolding half
half_value zero = (refl, refl)
half_value (suc k) = (refl, refl)

-- ---- of an odd number times a power of two, both are told by the product

even_odd : (m t : ℕ) → m % 2 ≡ 1 → m ≡ 2 * t → ⊥
even_odd m t o h = omega arith

odd_pow : (m n a b : ℕ) → m % 2 ≡ 1 → n % 2 ≡ 1 → m * 2 ^ a ≡ n * 2 ^ b → (m ≡ n) × (a ≡ b)
odd_pow m n zero zero o p h = (sym (mul-one m) ∙ h ∙ mul-one n, refl)
odd_pow m n zero (suc b) o p h =
    absurd (even_odd m (n * 2 ^ b) o (sym (mul-one m) ∙ h ∙ ap (λ (x : ℕ). n * x) (pow-succ' 2 b) ∙ mul_left_comm n 2 (2 ^ b)))
odd_pow m n (suc a) zero o p h =
    absurd (even_odd n (m * 2 ^ a) p (sym (mul-one n) ∙ sym h ∙ ap (λ (x : ℕ). m * x) (pow-succ' 2 a) ∙ mul_left_comm m 2 (2 ^ a)))
odd_pow m n (suc a) (suc b) o p h =
    let r = odd_pow m n a b o p (eq_of_mul-eq-mul_right 2 (zero-lt-suc 1) (m * 2 ^ a) (n * 2 ^ b)
    (mul_assoc m (2 ^ a) 2 ∙ ap (λ (x : ℕ). m * x) (sym (pow-suc 2 a)) ∙ h ∙ ap (λ (x : ℕ). n * x) (pow-suc 2 b) ∙ sym (mul_assoc n (2 ^ b) 2))) in
    (r.0, ap suc r.1)

-- the significand of a float that the format has is odd
is_odd : (f : Format) (s : Bool) (m : ℕ) (e : ℤ) → T (fits f (fin s (suc m) e)) → suc m % 2 ≡ 1
unfolding fits
is_odd f s m e t =
    eqb→eq (suc m % 2) 1 (and_l (eqb (suc m % 2) 1) (ltb (suc m) (2 ^ prec f)) (and_l (eqb (suc m % 2) 1 && ltb (suc m) (2 ^ prec f)) (leb (down e) (2 ^ low f))
    (and_l (eqb (suc m % 2) 1 && ltb (suc m) (2 ^ prec f) && leb (down e) (2 ^ low f)) (ltb (suc m * up e) (2 ^ suc (emax f) * down e)) t)))

no_sum : (k n : ℕ) → k + n ≡ 0 → (k ≡ 0) × (n ≡ 0)
no_sum k n h = (omega arith, omega arith)

-- a float of the format that is one half to the power of n is `half n`
pub is-half : (x : Float) (n : ℕ) → T (fits binary64 x) → HasValue x false 1 (2 ^ n) → x ≡ half n
unfolding half
is-half nan n p v = elim v [ ]
is-half (inf _) n p v = elim v [ ]
is-half (fin t zero e) n p v =
    absurd (lt_irrefl 0 (subst (λ (z : ℕ). 0 < z) (sym v.1 ∙ ap (λ (z : ℕ). z * 2 ^ n) (zero-mul (up e)) ∙ zero-mul (2 ^ n)) (mul-pos (zero-lt-suc 0) (down_pos e))))
is-half (fin t (suc m) (pos k)) n p v =
    let o = is_odd binary64 t m (pos k) p in
    let r = odd_pow (suc m) 1 (k + n) 0 o refl (ap (λ (z : ℕ). suc m * z) (pow-add 2 k n) ∙ sym (mul_assoc (suc m) (2 ^ k) (2 ^ n)) ∙ v.1) in
    let q = no_sum k n r.1 in
    (λ i. fin (v.0 i) (r.0 i) (pos (q.0 i))) ∙ sym (ap half q.1)
is-half (fin t (suc m) (negsuc k)) n p v =
    let o = is_odd binary64 t m (negsuc k) p in
    let r = odd_pow (suc m) 1 n (suc k) o refl (ap (λ (z : ℕ). z * 2 ^ n) (sym (mul-one (suc m))) ∙ v.1) in
    (λ i. fin (v.0 i) (r.0 i) (negsuc k)) ∙ sym (ap half r.1)

-- ---- down to the smallest f64 nothing is rounded

fill : (n : ℕ) → n ≤ least → least - n + n ≡ least
fill n h = omega arith

pub round-half : (n : ℕ) → n ≤ least → round binary64 false 1 (2 ^ n) ≡ half n
round-half n h =
    is-half (round binary64 false 1 (2 ^ n)) n (round-fits binary64 false 1 (2 ^ n))
    (round_exact binary64 false 1 (2 ^ n) 1 (least - n) (pow_pos n) (pow-lt {i = 0} {j = 53} (zero-lt-suc 52))
    (subst (λ (z : ℕ). z < 2 ^ (low binary64 + suc (emax binary64))) (sym (one-mul (2 ^ (least - n)))) (pow-lt {i = least - n} {j = 2098} (omega arith)))
    (one-mul (2 ^ least) ∙ sym (ap (λ (z : ℕ). 2 ^ z) (fill n h)) ∙ pow-add 2 (least - n) n ∙ ap (λ (z : ℕ). z * 2 ^ n) (sym (one-mul (2 ^ (least - n))))))

-- so these are floats of the format
pub half-fits : (n : ℕ) → n ≤ least → T (fits binary64 (half n))
half-fits n h = rw (← round-half n h) (round-fits binary64 false 1 (2 ^ n))

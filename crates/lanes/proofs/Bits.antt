-- Lanes as the bits of a number: AND, OR and XOR of words go lane by lane, and a word is determined by its bits.
-- Assumes nothing.
use mathlib.Core.Path.{◌≡◌, refl, sym, ap, ap₂, ◌∙◌}
use mathlib.Core.Bool.{Bool, true, false, ◌&&◌, ◌||◌, xor}
use Prim.Native.Nat.{ℕ, zero, suc, ◌+◌, ◌*◌, ◌/◌, ◌%◌, ◌^◌, ◌≤◌, ◌<◌, min, max}
use native.Mathlib.Nat.{add-zero, add-suc, pow-suc, div-one}
use native.Mathlib.Omega.{arith}
use lib.Bits.{bit_and, bit_or, bit_xor, and_block, or_block, xor_block, and_shr, or_shr, and_step, or_step}
use lib.Pow.{shr-shr}
use Rattle.ground.specs.Choose.{one}
use Rattle.ground.proofs.Tests.{one_most, one_and, one_or}
use Rattle.lanes.specs.Lanes.{lanes_to, lanes_of, bit_at}
use Rattle.lanes.specs.Words.{Bits}

pub lanes_same : (t u : ℕ → Bool) (n : ℕ) → ((i : ℕ) → i < n → t i ≡ u i) → lanes_to t n ≡ lanes_to u n
lanes_same t u zero h = refl
lanes_same t u (suc n) h = ap₂ (λ (x : Bool) (y : ℕ). one x * 2 ^ n + y) (h n (omega arith)) (lanes_same t u n (λ i l. h i (omega arith)))

pub lanes_small : (t : ℕ → Bool) (n : ℕ) → lanes_to t n < 2 ^ n
lanes_small t zero = omega arith
lanes_small t (suc n) = go (t n) (lanes_small t n)
  where
    go : (b : Bool) {x : ℕ} → x < 2 ^ n → one b * 2 ^ n + x < 2 ^ suc n
    go true h = omega (arith, pow-suc 2 n)
    go false h = omega (arith, pow-suc 2 n)

-- lanes to spare, where the test fails
pub lanes_spare : (t : ℕ → Bool) (n d : ℕ) → ((i : ℕ) → n ≤ i → t i ≡ false) → lanes_to t (n + d) ≡ lanes_to t n
lanes_spare t n zero h = ap (lanes_to t) (add-zero n)
lanes_spare t n (suc d) h =
    ap (lanes_to t) (add-suc n d) ∙ ap (λ (x : Bool). one x * 2 ^ (n + d) + lanes_to t (n + d)) (h (n + d) (omega arith)) ∙ omega (arith, lanes_spare t n d h)

-- ---- an operation on words that is one on bits

-- what is done to two numbers is done to their high and to their low bits
abbrev Blockwise : (ℕ → ℕ → ℕ) → Type 0
Blockwise op = (k a b r s : ℕ) → r < 2 ^ k → s < 2 ^ k → op (a * 2 ^ k + r) (b * 2 ^ k + s) ≡ op a b * 2 ^ k + op r s

module _ (op : ℕ → ℕ → ℕ) (on : Bool → Bool → Bool) (none : op 0 0 ≡ 0) (bits : (a b : Bool) → op (one a) (one b) ≡ one (on a b)) (blocks : Blockwise op) where
  lanes_op : (t u : ℕ → Bool) (n : ℕ) → op (lanes_to t n) (lanes_to u n) ≡ lanes_to (λ i. on (t i) (u i)) n
  lanes_op t u zero = none
  lanes_op t u (suc n) =
      blocks n (one (t n)) (one (u n)) (lanes_to t n) (lanes_to u n) (lanes_small t n) (lanes_small u n)
      ∙ ap₂ (λ (x y : ℕ). x * 2 ^ n + y) (bits (t n) (u n)) (lanes_op t u n)

one-xor : (a b : Bool) → bit_xor (one a) (one b) ≡ one (xor a b)
unfolding xor
one-xor true true = refl
one-xor true false = refl
one-xor false true = refl
one-xor false false = refl

module _ (t u : ℕ → Bool) where
  pub lanes_and : bit_and (lanes_of t) (lanes_of u) ≡ lanes_of (λ i. t i && u i)
  unfolding lanes_of
  lanes_and = lanes_op bit_and ◌&&◌ refl one_and and_block t u 64

  pub lanes_or : bit_or (lanes_of t) (lanes_of u) ≡ lanes_of (λ i. t i || u i)
  unfolding lanes_of
  lanes_or = lanes_op bit_or ◌||◌ refl one_or or_block t u 64

  pub lanes_xor : bit_xor (lanes_of t) (lanes_of u) ≡ lanes_of (λ i. xor (t i) (u i))
  unfolding lanes_of
  lanes_xor = lanes_op bit_xor xor refl one-xor xor_block t u 64

-- ---- bit by bit

-- the lowest bit of a number, as a step of an operation has it
last_bit : {x : ℕ} (q r : ℕ) → x ≡ q * 2 + r → r < 2 → x % 2 ≡ r
last_bit q r e l = omega arith

pub and_bit : (x y i : ℕ) (a b : Bool) → bit_at x i ≡ one a → bit_at y i ≡ one b → bit_at (bit_and x y) i ≡ one (a && b)
and_bit x y i a b p q =
    ap (λ (z : ℕ). z % 2) (and_shr x y i)
    ∙ last_bit _ (min (bit_at x i) (bit_at y i)) (and_step (x / 2 ^ i) (y / 2 ^ i)) (omega (arith, p, one_most a))
    ∙ ap₂ min p q
    ∙ least a b
  where
    least : (a b : Bool) → min (one a) (one b) ≡ one (a && b)
    least true true = refl
    least true false = refl
    least false b = omega arith

pub or_bit : (x y i : ℕ) (a b : Bool) → bit_at x i ≡ one a → bit_at y i ≡ one b → bit_at (bit_or x y) i ≡ one (a || b)
or_bit x y i a b p q =
    ap (λ (z : ℕ). z % 2) (or_shr x y i)
    ∙ last_bit _ (max (bit_at x i) (bit_at y i)) (or_step (x / 2 ^ i) (y / 2 ^ i)) (omega (arith, p, q, one_most a, one_most b))
    ∙ ap₂ max p q
    ∙ most a b
  where
    most : (a b : Bool) → max (one a) (one b) ≡ one (a || b)
    most true b = omega (arith, one_most b)
    most false true = refl
    most false false = refl

-- lane 0 is the lowest bit, and the others stand one higher
pub lanes_low : (t : ℕ → Bool) (n : ℕ) → lanes_to t (suc n) ≡ 2 * lanes_to (λ i. t (suc i)) n + one (t 0)
lanes_low t zero = omega arith
lanes_low t (suc n) = go (t (suc n)) (lanes_to (λ i. t (suc i)) n) (one (t 0)) (lanes_low t n)
  where
    go : (b : Bool) {x : ℕ} (y z : ℕ) → x ≡ 2 * y + z → one b * 2 ^ suc n + x ≡ 2 * (one b * 2 ^ n + y) + z
    go true y z e = omega (arith, pow-suc 2 n)
    go false y z e = omega arith

half_bit : (w i : ℕ) → bit_at (w / 2) i ≡ bit_at w (suc i)
half_bit w i = ap (λ (x : ℕ). x % 2) (shr-shr w 1 i ∙ ap (λ (x : ℕ). w / 2 ^ x) (omega arith))

pub lanes_bit : (t : ℕ → Bool) (n i : ℕ) → i < n → bit_at (lanes_to t n) i ≡ one (t i)
lanes_bit t zero i h = absurd (omega arith)
lanes_bit t (suc n) zero h = rw div-one (omega (arith, lanes_low t n, one_most (t 0)))
lanes_bit t (suc n) (suc i) h =
    let half : lanes_to t (suc n) / 2 ≡ lanes_to (λ j. t (suc j)) n = omega (arith, lanes_low t n, one_most (t 0)) in
    sym (half_bit (lanes_to t (suc n)) i) ∙ ap (λ (x : ℕ). bit_at x i) half ∙ lanes_bit (λ j. t (suc j)) n i (omega arith)

by_bits : (t : ℕ → Bool) (n w : ℕ) → w < 2 ^ n → ((i : ℕ) → i < n → bit_at w i ≡ one (t i)) → w ≡ lanes_to t n
by_bits t zero w l h = omega arith
by_bits t (suc n) w l h =
    let first : w % 2 ≡ one (t 0) = rw div-one at (h 0 (omega arith)) in
    let rest : w / 2 ≡ lanes_to (λ i. t (suc i)) n =
    by_bits (λ i. t (suc i)) n (w / 2) (omega (arith, pow-suc 2 n)) (λ i b. half_bit w i ∙ h (suc i) (omega arith)) in
    omega (arith, lanes_low t n)

-- the lanes of a test have its bits, and no other word has
pub bits_of : (t : ℕ → Bool) → Bits t (lanes_of t)
unfolding lanes_of
bits_of t = record { fits = lanes_small t 64; bits = lanes_bit t 64 }

pub of_bits : {t : ℕ → Bool} {w : ℕ} → Bits t w → w ≡ lanes_of t
unfolding lanes_of
of_bits {t} {w} b = by_bits t 64 w b.fits b.bits

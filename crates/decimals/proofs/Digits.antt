-- Numbers in decimal: how long they are, how they are written digit by digit, and that they say the number.
-- Assumes nothing.
use mathlib.Core.Path.{◌≡◌, refl, ◌∙◌}
use mathlib.Core.Bool.{Bool, true, false}
use mathlib.Core.List.{List, [], ◌∷◌, ◌++◌}
use Prim.Native.Nat.{ℕ, zero, suc, ◌+◌, ◌*◌, ◌-◌, ◌/◌, ◌%◌, ◌^◌, ◌≤◌, ◌<◌}
use native.Mathlib.Nat.{div-lt_iff_lt-mul, div-add-mod, pow-zero, pow-suc}
use native.Mathlib.Omega.{arith}
use lib.Dec.{ltb}
use lib.ListN.{length, length-append}
use borrow.Author.Tests.{lt-ltb, le-ltb}
use Rattle.ground.specs.Choose.{choose}
use Rattle.ground.specs.Put.{Put}
use Rattle.ground.proofs.Put.{put_none, put_then}
use Rattle.decimals.specs.Digits.{digits, value_from}

pub digits_short : (f n : ℕ) → length (digits f n) ≤ f
unfolding digits
digits_short zero n = omega arith
digits_short (suc f) n = go (ltb n 10) (digits_short f (n / 10))
  where
    go : (t : Bool) → length (digits f (n / 10)) ≤ f → length (choose t ((n + 48) ∷ []) (digits f (n / 10) ++ ((n % 10 + 48) ∷ []))) ≤ suc f
    go true h = omega arith
    go false h = rw length-append (omega arith)

-- ---- the ways of `put_digits`

pub none_left : (w : List ℕ) (at n : ℕ) {f : ℕ} → f ≡ 0 → Put w w at (digits f n) at
unfolding digits
none_left w at n e = rw e (put_none w at)

module _ {w w' : List ℕ} {at n f next : ℕ} where
  pub one_digit : (f ≡ 0 → ⊥) → n < 10 → Put w w' at ((n + 48) ∷ []) next → Put w w' at (digits f n) next
  unfolding digits
  one_digit ne l p = go f ne
    where
      go : (g : ℕ) → (g ≡ 0 → ⊥) → Put w w' at (digits g n) next
      go zero z = absurd (z refl)
      go (suc g) z = rw (lt-ltb n 10 l) p

  pub more-digits : {v : List ℕ} {m : ℕ} → (f ≡ 0 → ⊥) → 10 ≤ n → Put w v at (digits (f - 1) (n / 10)) m → Put v w' m ((n % 10 + 48) ∷ []) next → Put w w' at (digits f n) next
  unfolding digits
  more-digits {v} {m} ne l p q = go f ne p
    where
      go : (g : ℕ) → (g ≡ 0 → ⊥) → Put w v at (digits (g - 1) (n / 10)) m → Put w w' at (digits g n) next
      go zero z p = absurd (z refl)
      go (suc g) z p = let e : suc g - 1 ≡ g = omega arith in rw (le-ltb n 10 l) (put_then (rw e at p) q)

-- ---- what is written says the number

value_more : (acc : ℕ) (a : List ℕ) (d : ℕ) → value_from acc (a ++ (d ∷ [])) ≡ 10 * value_from acc a + (d - 48)
value_more acc [] d = refl
value_more acc (x ∷ a) d = value_more (10 * acc + (x - 48)) a d

-- enough digits are left
fewer : (f n : ℕ) → n < 10 ^ suc f → n / 10 < 10 ^ f
fewer f n h = (div-lt_iff_lt-mul {k = 10} {x = n} {y = 10 ^ f} (omega arith)).1 (rw (← pow-suc 10 f) h)

pub digits_value : (f n : ℕ) → n < 10 ^ f → value_from 0 (digits f n) ≡ n
unfolding digits
digits_value zero n h = omega (arith, rw (pow-zero 10) at h)
digits_value (suc f) n h = go (ltb n 10) refl (digits_value f (n / 10) (fewer f n h))
  where
    go : (t : Bool) → ltb n 10 ≡ t → value_from 0 (digits f (n / 10)) ≡ n / 10 → value_from 0 (choose t ((n + 48) ∷ []) (digits f (n / 10) ++ ((n % 10 + 48) ∷ []))) ≡ n
    go true e ih = omega arith
    go false e ih = value_more 0 (digits f (n / 10)) (n % 10 + 48) ∙ rw ih (omega (arith, div-add-mod n 10))

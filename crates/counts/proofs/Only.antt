-- Where a pattern is the only one of its kind: three tests as numbers, and a row of them.
-- Assumes nothing.
use mathlib.Core.Path.{◌≡◌, ap, ◌∙◌}
use mathlib.Core.Bool.{Bool, true, false, not, and_assoc}
use mathlib.Core.List.{List}
use Prim.Native.Nat.{ℕ, ◌*◌, ◌≤◌}
use native.Mathlib.Omega.{arith}
use lib.Bits.{bit_and}
use lib.Dec.{eqb}
use borrow.Author.Tests.{ne_eqb}
use Rattle.ground.specs.Choose.{one}
use Rattle.ground.specs.Below.{any_below}
use Rattle.ground.proofs.Tests.{one_and, bit_one}
use Rattle.counts.specs.Owed.{Notes, sole_of, sole_in, sole_at, needed_of}

pub sole_and : (count seen entry want : ℕ) {x z : ℕ}
    → x ≡ one (eqb count 1)
    → seen ≤ 1
    → z ≡ one (eqb entry want)
    → bit_and (bit_and x seen) z ≡ one (sole_of count seen entry want)
unfolding sole_of
sole_and count seen entry want {x} {z} p bit r =
    ap (λ (y : ℕ). bit_and (bit_and x y) z) (bit_one seen bit) ∙ rw (p, r, one_and (eqb count 1) (eqb seen 1), one_and, and_assoc)

-- the notes of fewer faults
pub fewer_notes : {s : List ℕ} {n : ℕ} → Notes s n → (k : ℕ) → k ≤ n → Notes s k
fewer_notes so k l = record { room = omega (arith, so.room); bit = λ f b. so.bit f (omega arith) }

-- 1 is not 0
pub one-not : (b : Bool) {r : ℕ} → r ≡ one b → not (eqb r 0) ≡ b
one-not true e = rw e
one-not false e = rw e

module _ (c s t : List ℕ) (from : ℕ) where
  module _ (n : ℕ) {r : ℕ} (is : r ≡ one (any_below n (sole_in c s (256 * n) t from 1))) where
    pub needed_fault : (r ≡ 0 → ⊥) → not (eqb r 0) ≡ needed_of c s t from n
    unfolding needed_of
    needed_fault h = rw (← one-not (any_below n (sole_in c s (256 * n) t from 1)) is, ne_eqb r 0 h)

    pub needed_pair : {x : Bool} → r ≡ 0 → x ≡ any_below n (sole_at c s t from) → x ≡ needed_of c s t from n
    unfolding needed_of
    needed_pair h w = rw (← one-not (any_below n (sole_in c s (256 * n) t from 1)) is, h) w

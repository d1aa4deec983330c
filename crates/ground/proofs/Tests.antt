-- Tests and what they say.
-- Assumes nothing.
use mathlib.Core.Path.{◌≡◌, refl, sym}
use mathlib.Core.Logic.{◌⊎◌, inl, inr}
use mathlib.Core.Bool.{Bool, true, false, ◌&&◌, ◌||◌, true≢false}
use Prim.Native.Nat.{ℕ, zero, suc, ◌+◌, ◌≤◌, ◌<◌}
use native.Mathlib.Omega.{arith}
use lib.Bits.{bit_and, bit_or}
use lib.Dec.{T, eqb, ltb, leb}
use borrow.Author.Tests.{ltb-true, ltb-false, le-leb}
use Rattle.std.specs.Int.{from_bool}
use Rattle.ground.specs.Choose.{one}

pub either : (a b : ℕ) → (a < b) ⊎ (b ≤ a)
either a b = go (ltb a b) refl
  where
    go : (t : Bool) → ltb a b ≡ t → (a < b) ⊎ (b ≤ a)
    go true e = inl (ltb-true a b e)
    go false e = inr (ltb-false a b e)

pub T-is : (b : Bool) → T b → b ≡ true
T-is true t = refl
T-is false t = absurd t

pub is_T : (b : Bool) → b ≡ true → T b
is_T true e = tt
is_T false e = absurd (true≢false (sym e))

pub both : (a b : Bool) → (a && b) ≡ true → (a ≡ true) × (b ≡ true)
both true b e = (refl, e)
both false b e = absurd (true≢false (sym e))

pub and_both : {a b : Bool} → a ≡ true → b ≡ true → (a && b) ≡ true
and_both e f = rw (e, f)

pub neither : (a b : Bool) → (a || b) ≡ false → (a ≡ false) × (b ≡ false)
neither true b e = absurd (true≢false e)
neither false b e = (refl, e)

-- a test that fails wherever another holds
pub never_both : (a b : Bool) → (a ≡ true → b ≡ false) → (a && b) ≡ false
never_both true b h = h refl
never_both false b h = refl

pub other_fails : (a b : Bool) → (a && b) ≡ false → a ≡ true → b ≡ false
other_fails true b e h = e
other_fails false b e h = absurd (true≢false (sym h))

-- two tests that agree wherever another holds
pub agree_where : (a : Bool) {b c : Bool} → (a ≡ true → b ≡ c) → (a && b) ≡ (a && c)
agree_where true h = h refl
agree_where false h = refl

-- two tests that hold together are the same
pub same_test : (a b : Bool) → (a ≡ true → b ≡ true) → (b ≡ true → a ≡ true) → a ≡ b
same_test true b h k = sym (h refl)
same_test false true h k = k refl
same_test false false h k = refl

-- at least one, where not none
pub some : (n : ℕ) → (n ≡ 0 → ⊥) → leb 1 n ≡ true
some n h = le-leb 1 n (omega arith)

pub one_most : (b : Bool) → one b ≤ 1
one_most true = omega arith
one_most false = omega arith

-- what `usize::from` gives of a test
pub from_bool-one : (b : Bool) → from_bool b ≡ one b
from_bool-one true = refl
from_bool-one false = refl

pub from_bool_most : (b : Bool) → from_bool b ≤ 1
from_bool_most true = omega arith
from_bool_most false = omega arith

pub one-either : (a b : Bool) → (a && b) ≡ false → one (a || b) ≡ one a + one b
one-either true b e = rw e
one-either false b e = omega arith

pub one_and : (a b : Bool) → bit_and (one a) (one b) ≡ one (a && b)
one_and true true = refl
one_and true false = refl
one_and false true = refl
one_and false false = refl

pub one_or : (a b : Bool) → bit_or (one a) (one b) ≡ one (a || b)
one_or true true = refl
one_or true false = refl
one_or false true = refl
one_or false false = refl

pub one-is : (b : Bool) → eqb (one b) 1 ≡ b
one-is true = refl
one-is false = refl

pub one_same : (a b : Bool) → one a ≡ one b → a ≡ b
one_same true true e = refl
one_same true false e = absurd (omega arith)
one_same false true e = absurd (omega arith)
one_same false false e = refl

-- a number that is 0 or 1 is its own bit
pub bit_one : (x : ℕ) → x ≤ 1 → x ≡ one (eqb x 1)
bit_one zero l = refl
bit_one (suc zero) l = refl
bit_one (suc (suc x)) l = absurd (omega arith)

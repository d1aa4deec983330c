-- Whole records of a width, 1 to `most`: what the test says, and when it holds.
-- Assumes nothing.
use mathlib.Core.Path.{◌≡◌, refl}
use mathlib.Core.Bool.{Bool, true, false}
use Prim.Native.Nat.{ℕ, zero, suc, ◌*◌, ◌≤◌, ◌<◌, ◌/◌, ◌%◌}
use native.Mathlib.Nat.{div-add-mod, mul-div_right, mul-mod_right, div-zero}
use native.Mathlib.Omega.{arith}
use lib.Dec.{eqb, leb}
use borrow.Author.Tests.{eqb-true, leb-true, le-leb}
use Rattle.ground.proofs.Tests.{both, and_both}
use Rattle.answers.specs.Rules.{Same}
use Rattle.answers.specs.Records.{records_ok, Records}

pub records : (width most bytes : ℕ) → records_ok width most bytes ≡ true → Records width most bytes
unfolding records_ok
records width most bytes e =
    let p = both (eqb (bytes % width) 0) _ e in
    let q = both (leb 1 (bytes / width)) _ p.1 in
    let z = eqb-true (bytes % width) 0 p.0 in
    record {
      multiple = omega (arith, div-add-mod bytes width);
      some = leb-true 1 (bytes / width) q.0;
      few = leb-true (bytes / width) most q.1;
    }

-- any number of records in the range, each of the width
pub records_hold : (width most n : ℕ) → 0 < width → 1 ≤ n → n ≤ most → records_ok width most (width * n) ≡ true
unfolding records_ok
records_hold width most n w s m =
    rw (mul-mod_right width n, mul-div_right n w) (and_both (le-leb 1 n s) (le-leb n most m))

pub records_same : (width most bytes : ℕ) → 0 < width → Same (records_ok width most bytes) (Records width most bytes)
records_same width most bytes w = record {
  holds = records width most bytes;
  tests = λ r. rw r.multiple (records_hold width most (bytes / width) w r.some r.few);
}

pub too_many_records : (width most bytes : ℕ) → most < bytes / width → records_ok width most bytes ≡ false
too_many_records width most bytes l = go (records_ok width most bytes) refl
  where
    go : (b : Bool) → records_ok width most bytes ≡ b → b ≡ false
    go true e = absurd (omega (arith, (records width most bytes e).few))
    go false e = refl

-- a width of 0 has no records: then the test fails, and so do the words
pub any_width : (width most bytes : ℕ) → Same (records_ok width most bytes) (Records width most bytes)
any_width zero most bytes = record { holds = records 0 most bytes; tests = λ r. absurd (omega (arith, r.some, div-zero bytes)) }
any_width (suc width) most bytes = records_same (suc width) most bytes (omega arith)

-- search and clauses want exactly one fault record: eight bytes
pub one_record : (bytes : ℕ) → Records 8 1 bytes → bytes ≡ 8
one_record bytes r = omega arith

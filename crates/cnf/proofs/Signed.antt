-- A variable's number and its negation as signed words of 32 bits.
-- Assumes nothing.
use mathlib.Core.Path.{◌≡◌}
use mathlib.Core.Bool.{Bool, true, false}
use Prim.Native.Nat.{ℕ, zero, suc}
use native.Mathlib.Omega.{arith}
use lib.IntN.{ℤ, pos, neg_ℤ, ◌-ℤ◌, +ℤ_idl}
use mir.Syntax.{w32}
use mir.Val.{SFits, to_z, of_z}
use mir.Facts.{to_z-of_z, to_z_pos}
use Rattle.ground.specs.Choose.{choose}
use Rattle.cnf.specs.Owed.{Variable, signed}

module _ (v : ℕ) (h : Variable v) where
  pub plus_is : to_z w32 v ≡ pos v
  plus_is = to_z_pos w32 h.fits

  minus_fits : SFits w32 (neg_ℤ (pos v))
  minus_fits = go v h
    where
      go : (v : ℕ) → Variable v → SFits w32 (neg_ℤ (pos v))
      go zero h = record { sfits = omega arith }
      go (suc v) h = record { sfits = omega (arith, h.fits) }

  pub minus_is : to_z w32 (of_z w32 (neg_ℤ (pos v))) ≡ neg_ℤ (pos v)
  minus_is = to_z-of_z minus_fits

  -- the code takes the number from 0
  taken : pos 0 -ℤ to_z w32 v ≡ neg_ℤ (pos v)
  taken = rw plus_is (+ℤ_idl (neg_ℤ (pos v)))

  pub taken_fits : SFits w32 (pos 0 -ℤ to_z w32 v)
  taken_fits = rw taken minus_fits

  pub taken_is : to_z w32 (of_z w32 (pos 0 -ℤ to_z w32 v)) ≡ neg_ℤ (pos v)
  taken_is = rw taken minus_is

-- a literal that is handed on is read back from its bits
pub plus_back : {v : ℕ} {z : ℤ} → Variable v → z ≡ pos v → to_z w32 (of_z w32 z) ≡ pos v
plus_back {v} h e = rw e (plus_is v h)

pub minus_back : {v : ℕ} {z : ℤ} → Variable v → z ≡ neg_ℤ (pos v) → to_z w32 (of_z w32 z) ≡ neg_ℤ (pos v)
minus_back {v} h e = rw e (minus_is v h)

pub literal_back : (t : Bool) (v : ℕ) {z : ℤ} → Variable v → z ≡ signed t v → to_z w32 (of_z w32 z) ≡ signed t v
unfolding signed
literal_back t v {z} h e = go t e
  where
    go : (t : Bool) → z ≡ choose t (neg_ℤ (pos v)) (pos v) → to_z w32 (of_z w32 z) ≡ choose t (neg_ℤ (pos v)) (pos v)
    go true e = minus_back h e
    go false e = plus_back h e

-- Two entries: one is fail and the other is pass.
-- Assumes nothing.
use mathlib.Core.Path.{◌≡◌, refl}
use mathlib.Core.Logic.{inl, inr}
use mathlib.Core.Bool.{Bool, true, false, ◌&&◌, ◌||◌, and-true, and-false, or-false}
use Prim.Native.Nat.{ℕ, zero, suc, ◌-◌}
use native.Mathlib.Omega.{arith}
use lib.Dec.{eqb, leb}
use borrow.Author.Tests.{ne_eqb, lt-leb, eqb-true}
use Rattle.ground.proofs.Tests.{both}
use Rattle.needs.specs.Needs.{fails, passes, tells}
use Rattle.needs.specs.Words.{TellsApart}

-- ---- the test says what the words say

pub tells_is : (a b : ℕ) → tells a b ≡ true → TellsApart a b
unfolding tells
tells_is a b e = go (fails a && passes b) refl e
  where
    go : (t : Bool) → (fails a && passes b) ≡ t → (t || (passes a && fails b)) ≡ true → TellsApart a b
    go true q e = let w = both (fails a) (passes b) q in inl (eqb-true a 1 w.0, eqb-true b 0 w.1)
    go false q e = let w = both (passes a) (fails b) e in inr (eqb-true a 0 w.0, eqb-true b 1 w.1)

pub is-tells : (a b : ℕ) → TellsApart a b → tells a b ≡ true
unfolding tells
is-tells a b (inl w) = rw (w.0, w.1)
is-tells a b (inr w) = rw (w.0, w.1)

pub tells_swap : {a b : ℕ} → TellsApart a b → TellsApart b a
tells_swap (inl w) = inr (w.1, w.0)
tells_swap (inr w) = inl (w.1, w.0)

pub tells-differ : (a : ℕ) → TellsApart a a → ⊥
tells-differ a (inl w) = omega (arith, w.0, w.1)
tells-differ a (inr w) = omega (arith, w.0, w.1)

-- ---- another way to ask it: of an entry that is known, for the other one

pub tells_other : (a b : ℕ) → tells a b ≡ (leb b 1 && eqb a (1 - b))
unfolding tells
tells_other a zero = simp (and-true, and-false, or-false)
tells_other a (suc zero) = simp (and-true, and-false)
tells_other a (suc (suc b)) = simp (ne_eqb (suc (suc b)) 0 (omega arith), ne_eqb (suc (suc b)) 1 (omega arith), lt-leb (suc (suc b)) 1 (omega arith), and-false)

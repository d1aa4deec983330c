-- What the words of an output say, lane by lane: where its values differ, and where they are not as expected.
-- Assumes nothing.
use mathlib.Core.Path.{◌≡◌, refl, ap₂}
use mathlib.Core.Bool.{◌&&◌, ◌||◌, xor}
use Prim.Native.Nat.{ℕ, zero, suc}
use lib.Bits.{bit_and, bit_or, bit_xor}
use lib.Dec.{eqb}
use Rattle.gates.proofs.Values.{unknown}
use Rattle.gates.proofs.Words.{not0, not1}
use Rattle.lanes.specs.declared.Lanes.{Lanes}
use Rattle.lanes.proofs.Bits.{lanes_and, lanes_or, lanes_xor}
use Rattle.lanes.proofs.Values.{word_same}
use Rattle.entry.specs.Entry.{differ, agree, as_expected}
use Rattle.lane_entries.specs.declared.Said.{Said}
use Rattle.lane_entries.specs.Owed.{missed, CompareDone}

differs : (a b : ℕ) → ((eqb a 1 && eqb b 0) || (eqb a 0 && eqb b 1)) ≡ differ a b
unfolding differ
differs zero zero = refl
differs zero (suc zero) = refl
differs zero (suc (suc b)) = simp (not1 b, unknown b)
differs (suc zero) zero = refl
differs (suc zero) (suc zero) = refl
differs (suc zero) (suc (suc b)) = simp (not0 b, unknown b)
differs (suc (suc a)) b = simp (not0 a, not1 a, unknown a)

misses : (a b : ℕ) → (xor (eqb a 1) (eqb a 1 && eqb b 1) || xor (eqb a 0) (eqb a 0 && eqb b 0)) ≡ missed a b
unfolding as_expected agree xor
misses zero zero = refl
misses zero (suc zero) = refl
misses zero (suc (suc b)) = simp (not0 b, unknown b)
misses (suc zero) zero = refl
misses (suc zero) (suc zero) = refl
misses (suc zero) (suc (suc b)) = simp (not1 b, unknown b)
misses (suc (suc a)) b = simp (not0 a, not1 a, unknown a)

pub compared : {so : Said} {a b : Lanes} → CompareDone so a b (record {
  fails = bit_or so.fails (bit_or (bit_and a.ones b.zeros) (bit_and a.zeros b.ones));
  misses =
      bit_or so.misses
      (bit_or (bit_xor a.ones (bit_and a.ones b.ones)) (bit_xor a.zeros (bit_and a.zeros b.zeros)));
})
compared d m v w e p q =
    simp (e, p, q, lanes_and, lanes_or, lanes_xor)
    (ap₂ (λ (x y : ℕ). record { fails = x; misses = y })
    (word_same _ _ (λ i _. simp (differs (v i) (w i))))
    (word_same _ _ (λ i _. simp (misses (v i) (w i)))))

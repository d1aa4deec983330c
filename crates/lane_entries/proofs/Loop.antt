-- The loop of `entries_from`, as facts about words of lanes.
-- Assumes nothing.
use mathlib.Core.Path.{◌≡◌, refl, sym, ap, ap₂, ◌∙◌}
use mathlib.Core.Bool.{Bool, true, false, not, ◌&&◌, ◌||◌, or-false, and-false}
use mathlib.Core.List.{List}
use Prim.Native.Nat.{ℕ, ◌+◌, ◌≤◌, ◌<◌}
use native.Mathlib.Numerals.{add-one}
use native.Mathlib.Omega.{arith}
use lib.Bits.{bit_and, bit_xor}
use lib.Dec.{eqb}
use lib.ListN.{get_or}
use borrow.Author.Tests.{eq-eqb, ne_eqb}
use Rattle.ground.proofs.Below.{none_any}
use Rattle.gates.specs.Gate.{known}
use Rattle.circuit.specs.Record.{out_at, is_output}
use Rattle.lanes.specs.declared.Lanes.{Lanes}
use Rattle.lanes.specs.Lanes.{lanes_of}
use Rattle.lanes.proofs.Bits.{lanes_and, lanes_xor}
use Rattle.lanes.proofs.Values.{word_same}
use Rattle.entry.specs.Entry.{Test, differ, agree, as_expected, some_output}
use Rattle.lane_lines.specs.Owed.{lanes_at}
use Rattle.lane_entries.specs.declared.Said.{Said}
use Rattle.lane_entries.specs.Owed.{missed, halves_of, outputs_say, SameBelow, CompareDone, NextLineDone, EntriesFromDone}
use Rattle.lane_entries.proofs.Halves.{good_at_lem, faulty_at_lem}
use Rattle.lane_entries.proofs.Entries.{fails_where, unknown_where}

-- ---- one line more

module _ (c : List ℕ) (n : ℕ) (w : List ℕ) (k : ℕ) {so : Said} where
  pub no_output : (out_at c k ≡ 1 → ⊥) → NextLineDone c n w k so so
  no_output ne g f _ e = e ∙ simp (ne_eqb (out_at c k) 1 ne, or-false)

  pub output : {r : Said} {a b : Lanes} → k < n → out_at c k ≡ 1 → a ≡ lanes_at w k → b ≡ lanes_at w (n + k) → CompareDone so a b r → NextLineDone c n w k so r
  output l out p q compared g f is e =
      rw (eq-eqb (out_at c k) 1 out)
      (compared _ _ _ _ e (p ∙ ap (λ (x : List ℕ). lanes_at x k) is ∙ good_at_lem g f n k l) (q ∙ ap (λ (x : List ℕ). lanes_at x (n + k)) is ∙ faulty_at_lem g f n k l))

-- ---- all lines

-- so is what the outputs below k say, of whatever values that are the same below the first line
pub record SoFar (c : List ℕ) (n : ℕ) (w : List ℕ) (from : ℕ) (so : Said) (k : ℕ) : Type 0 where
  pub at_most : k ≤ n
  pub said : (g f : ℕ → List ℕ) → w ≡ halves_of g f n → SameBelow g f from → so ≡ outputs_say c g f k

-- a test that no value passes together with itself holds at no output below that line
none_below : (t : Test) → ((a : ℕ) → t a a ≡ false) → (c : List ℕ) (g f : ℕ → List ℕ) (from : ℕ) → SameBelow g f from → 0 ≡ lanes_of (λ i. some_output t c (g i) (f i) from)
unfolding lanes_of
none_below t alike c g f from same =
    word_same (λ _. false) _
    (λ i _. sym (none_any from (λ k. is_output c k && t (get_or (g i) k 0) (get_or (f i) k 0)) (λ k l. rw (same i k l, alike (get_or (f i) k 0)) (and-false (is_output c k)))))

differ_alike : (a : ℕ) → differ a a ≡ false
unfolding differ
differ_alike a = simp (eq-eqb a a refl, and-false)

missed_alike : (a : ℕ) → missed a a ≡ false
unfolding as_expected agree
missed_alike a = go (known a)
  where
    go : (b : Bool) → not (not b || (b && (b && eqb a a))) ≡ false
    go true = rw (eq-eqb a a refl)
    go false = refl

pub start : (c : List ℕ) (n : ℕ) (w : List ℕ) (from : ℕ) → from ≤ n → SoFar c n w from (record { fails = 0; misses = 0 }) from
start c n w from l = record {
  at_most = l;
  said = λ g f _ same. ap₂ (λ (x y : ℕ). record { fails = x; misses = y }) (none_below differ differ_alike c g f from same) (none_below missed missed_alike c g f from same);
}

module _ {c : List ℕ} {n : ℕ} {w : List ℕ} {from : ℕ} {so : Said} {k : ℕ} (all : SoFar c n w from so k) where
  pub more : {r : Said} → k < n → NextLineDone c n w k so r → SoFar c n w from r (k + 1)
  more l next = record { at_most = omega arith; said = λ g f is same. rw add-one (next g f is (all.said g f is same)) }

  pub finished : n ≤ k → EntriesFromDone c n w from (record { fails = so.fails; unknowns = bit_xor so.misses (bit_and so.misses so.fails) })
  finished l g f is same =
      let e : k ≡ n = omega (arith, all.at_most) in
      let says : so ≡ outputs_say c g f n = all.said g f is same ∙ rw e in
      simp (says, lanes_and, lanes_xor)
      (ap₂ (λ (x y : ℕ). record { fails = x; unknowns = y })
      (word_same _ _ (λ i _. fails_where c (g i) (f i) n))
      (word_same _ _ (λ i _. unknown_where c (g i) (f i) n)))

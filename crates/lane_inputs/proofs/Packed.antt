-- The loop that lays the values of an input, a pattern each, into lanes.
-- Assumes nothing.
use mathlib.Core.Path.{◌≡◌, refl, sym, ap, ap₂, ◌∙◌}
use mathlib.Core.Bool.{Bool}
use mathlib.Core.List.{List}
use Prim.Native.Nat.{ℕ, suc, ◌+◌, ◌*◌, ◌-◌, ◌^◌, ◌≤◌, ◌<◌}
use native.Mathlib.Numerals.{add-one}
use native.Mathlib.Omega.{arith}
use lib.Dec.{eqb}
use lib.ListN.{length, get_or}
use lib.Pow.{pow_mono}
use borrow.Author.Tests.{ne_eqb, lt-ltb, le-ltb}
use Rattle.ground.specs.Choose.{one}
use Rattle.gates.specs.Gate.{X}
use Rattle.lanes.specs.Lanes.{lanes_to, lanes_of, laid}
use Rattle.lanes.proofs.Bits.{lanes_spare, lanes_small}
use Rattle.lists.specs.Patterns.{pattern_count}
use Rattle.lists.proofs.Patterns.{part_fits}
use Rattle.lane_inputs.specs.Owed.{GroupReady, input_lane}

module _ (m : ℕ) (ps : List ℕ) (input i : ℕ) where
  pub of_pattern : i < pattern_count m ps → input_lane m ps input i ≡ get_or ps (i * m + input) 0
  unfolding input_lane
  of_pattern l = rw (lt-ltb i (pattern_count m ps) l)

  pub of_spare : pattern_count m ps ≤ i → input_lane m ps input i ≡ X
  unfolding input_lane
  of_spare l = rw (le-ltb i (pattern_count m ps) l)

-- ---- the loop

-- the first i patterns are laid
pub record SoFar (m : ℕ) (ps : List ℕ) (input ones zeros i : ℕ) : Type 0 where
  pub at_most : i ≤ pattern_count m ps
  pub ones_are : ones ≡ lanes_to (λ j. eqb (input_lane m ps input j) 1) i
  pub zeros_are : zeros ≡ lanes_to (λ j. eqb (input_lane m ps input j) 0) i

pub start : (m : ℕ) (ps : List ℕ) (input : ℕ) → SoFar m ps input 0 0 0
start m ps input = record { at_most = omega arith; ones_are = refl; zeros_are = refl }

-- one more lane fits the word
lane_fits : (t : ℕ → Bool) {w x i : ℕ} → i < 64 → w ≡ lanes_to t i → x ≡ one (t i) * 2 ^ i → w + x < 2 ^ 64
lane_fits t {w} {x} {i} l e q = let b : 2 ^ suc i ≤ 2 ^ 64 = pow_mono l in omega (arith, lanes_small t (suc i))

one_lane : (t : ℕ → Bool) (i : ℕ) {w x : ℕ} → w ≡ lanes_to t i → x ≡ one (t i) * 2 ^ i → w + x ≡ lanes_to t (i + 1)
one_lane t i e q = rw (add-one i) (omega arith)

module _ {m : ℕ} {ps : List ℕ} {input ones zeros i : ℕ} (so : SoFar m ps input ones zeros i) (ready : GroupReady m ps) (inside : input < m) where
  pub lane_below : i < pattern_count m ps → i < 64
  lane_below l = omega (arith, ready.records.few)

  pub place_inside : i < pattern_count m ps → i * m + input < length ps
  place_inside l = omega (arith, part_fits i (pattern_count m ps) m l, ready.records.multiple)

  -- the value that is read
  read : i < pattern_count m ps → get_or ps (i * m + input) 0 ≡ input_lane m ps input i
  read l = sym (of_pattern m ps input i l)

  -- the bit of a lane, by the value that is read
  bit_is : (b : ℕ) {x : ℕ} → i < pattern_count m ps → x ≡ one (eqb (get_or ps (i * m + input) 0) b) * 2 ^ i → x ≡ one (eqb (input_lane m ps input i) b) * 2 ^ i
  bit_is b l e = e ∙ ap (λ (v : ℕ). one (eqb v b) * 2 ^ i) (read l)

  pub ones_fit : {x : ℕ} → i < pattern_count m ps → x ≡ one (eqb (get_or ps (i * m + input) 0) 1) * 2 ^ i → ones + x < 2 ^ 64
  ones_fit l e = lane_fits (λ j. eqb (input_lane m ps input j) 1) (lane_below l) so.ones_are (bit_is 1 l e)

  pub zeros_fit : {x : ℕ} → i < pattern_count m ps → x ≡ one (eqb (get_or ps (i * m + input) 0) 0) * 2 ^ i → zeros + x < 2 ^ 64
  zeros_fit l e = lane_fits (λ j. eqb (input_lane m ps input j) 0) (lane_below l) so.zeros_are (bit_is 0 l e)

  pub more : {x y : ℕ} → i < pattern_count m ps → x ≡ one (eqb (get_or ps (i * m + input) 0) 1) * 2 ^ i → y ≡ one (eqb (get_or ps (i * m + input) 0) 0) * 2 ^ i → SoFar m ps input (ones + x) (zeros + y) (i + 1)
  more l e q = record {
    at_most = omega arith;
    ones_are = one_lane (λ j. eqb (input_lane m ps input j) 1) i so.ones_are (bit_is 1 l e);
    zeros_are = one_lane (λ j. eqb (input_lane m ps input j) 0) i so.zeros_are (bit_is 0 l q);
  }

  pub finished : pattern_count m ps ≤ i → record { ones = ones; zeros = zeros } ≡ laid (input_lane m ps input)
  unfolding lanes_of
  finished l = ap₂ (λ (x y : ℕ). record { ones = x; zeros = y }) (whole 1 (omega arith) so.ones_are) (whole 0 (omega arith) so.zeros_are)
    where
      whole : (b : ℕ) {w : ℕ} → b < 2 → w ≡ lanes_to (λ j. eqb (input_lane m ps input j) b) i → w ≡ lanes_to (λ j. eqb (input_lane m ps input j) b) 64
      whole b c e =
          let all : i + (64 - i) ≡ 64 = omega (arith, so.at_most, ready.records.few) in
          e
          ∙ sym (lanes_spare (λ j. eqb (input_lane m ps input j) b) i (64 - i) (λ j h. rw (of_spare m ps input j (omega arith)) (ne_eqb 2 b (λ q. omega arith))))
          ∙ ap (lanes_to (λ j. eqb (input_lane m ps input j) b)) all

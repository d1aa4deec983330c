-- The loop that sets the inputs' lines in every lane; and the good lines, once all lines have had their turn.
-- Assumes nothing.
use mathlib.Core.Path.{◌≡◌, refl, sym, ◌∙◌}
use mathlib.Core.Bool.{Bool, true, false}
use mathlib.Core.List.{List}
use Prim.Native.Nat.{ℕ, ◌+◌, ◌*◌, ◌≤◌, ◌<◌}
use native.Mathlib.Numerals.{add-one}
use native.Mathlib.Omega.{arith}
use lib.Dec.{ltb}
use lib.ListN.{length, get_or, drop, replicate, get_or-replicate}
use lib.Seq.{get_or-take, get_or-drop}
use borrow.Author.Tests.{eq-eqb, ne_eqb}
use borrow.Author.Count.{below_more}
use Rattle.ground.specs.Choose.{choose, one}
use Rattle.ground.specs.Below.{count_below}
use Rattle.ground.specs.Lists.{table}
use Rattle.ground.proofs.Counting.{count_suc, count_most}
use Rattle.ground.proofs.Grow.{table-length, table_at}
use Rattle.gates.specs.Gate.{X}
use Rattle.circuit.specs.Record.{kind_at, is_input, inputs_before}
use Rattle.circuit.specs.Formed.{WellFormed}
use Rattle.lists.specs.Patterns.{pattern_count, pattern_at}
use Rattle.lane_inputs.specs.Owed.{input_lane}
use Rattle.lanes.specs.declared.Lanes.{Lanes}
use Rattle.lanes.specs.Lanes.{lanes_of, laid}
use Rattle.lanes.proofs.Values.{laid_same}
use Rattle.simulate.specs.Owed.{input_or, InputsFrom}
use Rattle.simulate.proofs.Settled.{ordered, all-good}
use Rattle.lane_lines.specs.Lines.{lane_pattern, good_words}
use Rattle.lane_lines.specs.Owed.{lanes_at, PairInside, Carries, LinesReady, SimulateWordsDone, InputWordsDone}
use Rattle.lane_lines.proofs.Words.{put_at, put_long, put_here, put_other, words_are, carries_same}

pub lines_ready : {c : List ℕ} {m n : ℕ} → WellFormed c m n → LinesReady c n (2 * n)
lines_ready w = record { ordered = ordered w; kinds = w.kinds; two = refl }

-- ---- one line before its turn

-- the value of an input in lane i is that of the lane's pattern
in_pattern : (m : ℕ) (ps : List ℕ) (input : ℕ) → input < m → (i : ℕ) → input_lane m ps input i ≡ get_or (lane_pattern m ps i) input 0
unfolding input_lane lane_pattern
in_pattern m ps input inside i = go (ltb i (pattern_count m ps))
  where
    go : (t : Bool) → choose t (get_or ps (i * m + input) 0) X ≡ get_or (choose t (pattern_at m ps i) (replicate m X)) input 0
    go true = sym (get_or-take m (drop (i * m) ps) input 0 inside ∙ get_or-drop (i * m) ps input 0)
    go false = sym (get_or-replicate m input X 0 inside)

module _ (c : List ℕ) (m : ℕ) (ps : List ℕ) (k i : ℕ) where
  -- an input has its values of the patterns
  pub input-set : {r : Lanes} → kind_at c k ≡ 0 → i < m → r ≡ laid (input_lane m ps i) → r ≡ laid (λ l. input_or c (lane_pattern m ps l) k i)
  unfolding input_or
  input-set e h q = q ∙ laid_same (input_lane m ps i) (λ l. input_or c (lane_pattern m ps l) k i) (λ l _. rw (eq-eqb (kind_at c k) 0 e) (in_pattern m ps i h l))

  -- a gate is X
  pub gate-set : (kind_at c k ≡ 0 → ⊥) → record { ones = 0; zeros = 0 } ≡ laid (λ l. input_or c (lane_pattern m ps l) k i)
  unfolding input_or lanes_of
  gate-set ne = laid_same (λ _. X) (λ l. input_or c (lane_pattern m ps l) k i) (λ l _. rw (ne_eqb (kind_at c k) 0 ne))

-- ---- the loop

-- the lines below k are set, and i inputs stand there
pub record SoFar (c : List ℕ) (m n : ℕ) (ps w : List ℕ) (k i : ℕ) : Type 0 where
  pub at_most : k ≤ n
  pub long : length w ≡ 2 * n
  pub used : i ≡ inputs_before c k
  pub below : (j : ℕ) → j < k → lanes_at w j ≡ laid (λ l. input_or c (lane_pattern m ps l) j (inputs_before c j))

pub start : (c : List ℕ) (m n : ℕ) (ps w : List ℕ) → length w ≡ 2 * n → SoFar c m n ps w 0 0
unfolding count_below
start c m n ps w e = record { at_most = omega arith; long = e; used = refl; below = λ j l. absurd (omega arith) }

module _ {c : List ℕ} {m n : ℕ} {ps w : List ℕ} {k i : ℕ} (so : SoFar c m n ps w k i) where
  pub used_small : i ≤ n
  used_small = omega (arith, so.at_most, so.used, count_most k (is_input c))

  pub here_inside : k < n → PairInside w k
  here_inside l = record { inside = omega (arith, so.long) }

  pub more : {a : Lanes} {x : ℕ} → k < n → a ≡ laid (λ l. input_or c (lane_pattern m ps l) k i) → x ≡ one (is_input c k) → SoFar c m n ps (put_at w k a) (k + 1) (i + x)
  more {a} {x} l e q = record {
    at_most = omega arith;
    long = put_long w k a ∙ so.long;
    used = rw (add-one k, count_suc k (is_input c), ← so.used, q);
    below = below_more (λ (j : ℕ). lanes_at (put_at w k a) j ≡ laid (λ l. input_or c (lane_pattern m ps l) j (inputs_before c j))) k
        (λ j h. put_other w k j a (λ z. omega arith) ∙ so.below j h)
        (put_here a (here_inside l) ∙ e ∙ rw so.used);
  }

  pub finished : n ≤ k → InputWordsDone c m n ps w
  finished l j h = so.below j (omega arith)

-- ---- all lines

module _ (c : List ℕ) (m n : ℕ) (ps : List ℕ) where
  -- the values of all lines in lane i, before the gates have had their turn
  inputs_in : ℕ → List ℕ
  inputs_in i = table (λ k. input_or c (lane_pattern m ps i) k (inputs_before c k)) n

  inputs_long : (i : ℕ) → length (inputs_in i) ≡ n
  unfolding inputs_in
  inputs_long i = table-length (λ k. input_or c (lane_pattern m ps i) k (inputs_before c k)) n

  carried : {w : List ℕ} → length w ≡ 2 * n → InputWordsDone c m n ps w → Carries inputs_in n w
  unfolding inputs_in
  carried long done = record {
    long = long;
    values = inputs_long;
    lines = λ k l. done k l ∙ laid_same _ _ (λ i _. sym (table_at (λ j. input_or c (lane_pattern m ps i) j (inputs_before c j)) n 0 k l));
  }

  inputs_from : (i : ℕ) → InputsFrom c (lane_pattern m ps i) (inputs_in i) 0
  unfolding inputs_in input_or
  inputs_from i j a b e =
      table_at (λ k. input_or c (lane_pattern m ps i) k (inputs_before c k)) n 0 j (omega (arith, inputs_long i))
      ∙ rw e

  -- with the inputs' lines set, all lines simulated are the good ones
  pub good_lines_made : {w w' : List ℕ} → length w ≡ 2 * n → InputWordsDone c m n ps w → SimulateWordsDone c n w 0 n w' → w' ≡ good_words c m ps n
  good_lines_made long done simulated =
      let made = simulated inputs_in (carried long done) in
      words_are _ n (carries_same (λ i. all-good c (lane_pattern m ps i) tt (made.carries.values i) (inputs_from i) (made.each i)) made.carries)

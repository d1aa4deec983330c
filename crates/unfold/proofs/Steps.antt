-- The loops that write the records, line by line and step by step: where they start, room for the next, one more, and the end.
-- Assumes nothing.
use mathlib.Core.Path.{◌≡◌, sym, ap, ◌∙◌}
use mathlib.Core.List.{List, ◌++◌, append-nil}
use Prim.Native.Nat.{ℕ, suc, ◌+◌, ◌*◌, ◌/◌, ◌%◌, ◌≤◌, ◌<◌}
use native.Mathlib.Nat.{suc-mul, zero-mul}
use native.Mathlib.Numerals.{add-one}
use native.Mathlib.Omega.{arith}
use lib.ListN.{length, drop_of_length-le}
use Rattle.ground.specs.Put.{Put}
use Rattle.ground.specs.Lists.{gather}
use Rattle.ground.proofs.Gather.{gather-length, gather_add, gather-same}
use Rattle.ground.proofs.Put.{put_none, put_then, put_long, put_whole, put_as}
use Rattle.circuit.specs.Record.{lines_of}
use Rattle.states.specs.Rules.{lines_after}
use Rattle.unfolded.specs.Unfolded.{step_record, unfolded_to, unfolded}
use Rattle.unfolded.proofs.Steps.{step_of, place_of}
use Rattle.unfolded.proofs.Fields.{record_length, front_long}
use Rattle.unfold.specs.Owed.{step_to}
use Rattle.unfold.proofs.Line.{step_fits}

-- ---- the lines of a step

module _ (c st : List ℕ) (k i : ℕ) where
  step_length : (l : ℕ) → length (step_to c st k i l) ≡ 8 * l
  step_length l = omega (arith, gather-length (step_record c st k i) 8 (record_length c st k i) l)

-- the records of the first m of n lines are written
pub record StepSoFar (c st : List ℕ) (k i n : ℕ) (w₀ w : List ℕ) (from at m : ℕ) : Type 0 where
  pub at_most : m ≤ n
  pub put : Put w₀ w from (step_to c st k i m) at

pub step_none : (c st : List ℕ) (k i n : ℕ) (w : List ℕ) (from : ℕ) → StepSoFar c st k i n w w from from 0
step_none c st k i n w from = record { at_most = omega arith; put = put_none w from }

module _ {c st : List ℕ} {k i n : ℕ} {w₀ w : List ℕ} {from at m : ℕ} (so : StepSoFar c st k i n w₀ w from at m) where
  pub line_room : m < n → from + 8 * n ≤ length w₀ → at + 8 ≤ length w
  line_room l room = omega (arith, put_long so.put, so.put.next_is, step_length c st k i m)

  pub step_more : {w' : List ℕ} {at' : ℕ} → m < n → Put w w' at (step_record c st k i m) at' → StepSoFar c st k i n w₀ w' from at' (m + 1)
  step_more l p = record { at_most = omega arith; put = rw add-one (put_then so.put p) }

  pub step_all : n ≤ m → Put w₀ w from (step_to c st k i n) at
  step_all l = let e : m ≡ n = omega (arith, so.at_most) in rw (← e) so.put

-- ---- the steps

module _ (c st : List ℕ) (k : ℕ) where
  abbrev on : ℕ → List ℕ
  on j = step_record c st k (j / lines_of c) (j % lines_of c)

  -- the lines of step i come behind those of the steps before it
  next_step : (i : ℕ) → unfolded_to c st k (i * lines_of c) ++ step_to c st k i (lines_of c) ≡ unfolded_to c st k (suc i * lines_of c)
  unfolding unfolded_to
  next_step i =
      rw (suc-mul i (lines_of c), gather_add on (i * lines_of c) (lines_of c))
      (ap (λ (l : List ℕ). gather on (i * lines_of c) ++ l)
      (gather-same (step_record c st k i) (λ m. on (i * lines_of c + m)) (lines_of c)
      (λ m l. rw (step_of (lines_of c) i m l, place_of (lines_of c) i m l))))

-- the records of the first i of k steps are written
pub record StepsSoFar (c st : List ℕ) (k : ℕ) (w₀ w : List ℕ) (at i : ℕ) : Type 0 where
  pub at_most : i ≤ k
  pub put : Put w₀ w 0 (unfolded_to c st k (i * lines_of c)) at

pub steps_none : (c st : List ℕ) (k : ℕ) (w : List ℕ) → StepsSoFar c st k w w 0 0
unfolding unfolded_to
steps_none c st k w = record { at_most = omega arith; put = rw zero-mul (put_none w 0) }

module _ {c st : List ℕ} {k : ℕ} {w₀ w : List ℕ} {at i : ℕ} (so : StepsSoFar c st k w₀ w at i) (room : length w₀ ≡ 8 * lines_after c k) where
  pub step_room : i < k → at + 8 * lines_of c ≤ length w
  step_room l =
      omega (arith, room, put_long so.put, so.put.next_is, front_long c st k (i * lines_of c), step_fits i k (lines_of c) l)

  pub steps_more : {w' : List ℕ} {at' : ℕ} → i < k → Put w w' at (step_to c st k i (lines_of c)) at' → StepsSoFar c st k w₀ w' at' (i + 1)
  steps_more l p = record { at_most = omega arith; put = rw add-one (put_as (next_step c st k i) (put_then so.put p)) }

  pub steps_all : k ≤ i → w ≡ unfolded c st k
  steps_all l =
      let e : i ≡ k = omega (arith, so.at_most) in
      let long : length (unfolded_to c st k (i * lines_of c)) ≡ length w₀ = front_long c st k (i * lines_of c) ∙ ap (λ (j : ℕ). 8 * (j * lines_of c)) e ∙ sym room in
      put_whole so.put (omega arith)
      ∙ rw (drop_of_length-le w₀ {i = length (unfolded_to c st k (i * lines_of c))} (omega arith), append-nil, e)

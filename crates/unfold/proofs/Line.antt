-- The record of line m of step i, as it is written: output byte, state record, sources; and that its numbers are small.
-- Assumes nothing.
use mathlib.Core.Path.{◌≡◌, refl, sym, ap, ◌∙◌}
use mathlib.Core.Bool.{Bool, true, false, ◌&&◌}
use mathlib.Core.List.{List}
use Prim.Native.Nat.{ℕ, suc, ◌+◌, ◌*◌, ◌-◌, ◌≤◌, ◌<◌}
use native.Mathlib.Nat.{suc-mul, mul-le-mul_right}
use native.Mathlib.Numerals.{add-one}
use native.Mathlib.Omega.{arith}
use lib.Dec.{eqb, leb, ltb}
use lib.ListN.{get_or}
use borrow.Author.Tests.{eq-eqb, ne_eqb, le-leb, lt-leb, leb-true, lt-ltb, le-ltb}
use Rattle.ground.specs.Choose.{choose}
use Rattle.ground.proofs.Tests.{both, one-is}
use Rattle.gates.specs.Gate.{pins_of}
use Rattle.circuit.specs.Record.{kind_at, out_at, pin_at, Inside}
use Rattle.records.specs.Owed.{record_of}
use Rattle.states.specs.States.{state_count, data_line, state_record, is_state, data_of, is_data}
use Rattle.states.specs.Owed.{StateInside}
use Rattle.states.proofs.Records.{no_record, gate-no_state}
use Rattle.unfolded.specs.Unfolded.{holds, step_kind, step_out, step_pin, step_record}
use Rattle.unfold.specs.Owed.{UnfoldingReady, StepLineReady, held_by, moved_pin, MovedReady, HeldReady}

-- ---- sizes

-- a step's lines end where the next begins
pub step_fits : (i k n : ℕ) → i < k → i * n + n ≤ k * n
step_fits i k n l = rw (← suc-mul i n) (mul-le-mul_right n l)

module _ {c st : List ℕ} {n k : ℕ} (ready : UnfoldingReady c st n k) where
  pub step_few : (i : ℕ) → i < k → i * n + n ≤ 2048
  step_few i l = omega (arith, step_fits i k n l, rw (← ready.lines) at ready.steps.most_lines)

  pub line_inside : (m : ℕ) → m < n → Inside c m
  line_inside m l = record { inside = omega (arith, ready.lines, ready.well.size) }

  pub record_whole : (r : ℕ) → r < state_count st → StateInside st r
  record_whole r l = record { inside = omega (arith, ready.steps.records) }

-- ---- a source that is moved

module _ {c : List ℕ} {m further : ℕ} (ready : MovedReady c m further) (s : ℕ) (some : 1 ≤ s) (few : s ≤ 3) where
  pub moved_few : s ≤ pins_of (kind_at c m) → further + pin_at c m s ≤ 2048
  unfolding pins_of
  moved_few h = omega (arith, ready.few, ready.lower (λ e. let none : s ≤ pins_of 0 = rw e at h in omega arith) s some few)

module _ (c : List ℕ) (m s further : ℕ) where
  pub moved_has : s ≤ pins_of (kind_at c m) → further + pin_at c m s ≡ moved_pin c m s further
  unfolding moved_pin
  moved_has h = rw (le-leb s _ h)

  pub moved_lacks : pins_of (kind_at c m) < s → 0 ≡ moved_pin c m s further
  unfolding moved_pin
  moved_lacks h = rw (lt-leb s _ h)

-- ---- line m of step i

-- by whether it holds a value
held_test : (st : List ℕ) (i m : ℕ) → ltb (held_by st i m) (state_count st) ≡ holds st i m
unfolding held_by is_state
held_test st i m = go (leb 1 i)
  where
    go : (b : Bool) → ltb (choose b (state_record st m) (state_count st)) (state_count st) ≡ (b && is_state st m)
    go true = refl
    go false = le-ltb (state_count st) (state_count st) (omega arith)

module _ {c st marks : List ℕ} {n k i m : ℕ} (l : StepLineReady c st marks n k i m) where
  -- the output byte
  mark_test : eqb (get_or marks m 0) 1 ≡ is_data st m
  mark_test = ap (λ (x : ℕ). eqb x 1) (l.has.marked m (omega (arith, l.line, l.has.marks_long))) ∙ one-is (is_data st m)

  pub out_before : (i + 1 ≡ k → ⊥) → out_at c m ≡ step_out c st k i m
  unfolding step_out
  out_before d = rw (ne_eqb (suc i) k (λ e. d (add-one i ∙ e)))

  module _ (last : i + 1 ≡ k) where
    pub out_marked : get_or marks m 0 ≡ 1 → 1 ≡ step_out c st k i m
    unfolding step_out
    out_marked e = rw (eq-eqb (suc i) k (sym (add-one i) ∙ last), ← mark_test, eq-eqb (get_or marks m 0) 1 e)

    pub out_unmarked : (get_or marks m 0 ≡ 1 → ⊥) → out_at c m ≡ step_out c st k i m
    unfolding step_out
    out_unmarked d = rw (eq-eqb (suc i) k (sym (add-one i) ∙ last), ← mark_test, ne_eqb (get_or marks m 0) 1 d)

  -- the state record
  pub held_none : i < 1 → state_count st ≡ held_by st i m
  unfolding held_by
  held_none h = rw (lt-leb 1 i h)

  pub held-later : 1 ≤ i → state_record st m ≡ held_by st i m
  unfolding held_by
  held-later h = rw (le-leb 1 i h)

  pub held-gate : 1 ≤ i → (kind_at c m ≡ 0 → ⊥) → state_count st ≡ held_by st i m
  held-gate h d = sym (no_record st m (gate-no_state l.has.ready.steps m d)) ∙ held-later h

  -- the record
  pub moved_ready : MovedReady c m (i * n)
  moved_ready = record {
    inside = line_inside l.has.ready m l.line;
    lower = l.has.ready.well.lower m (omega (arith, l.has.ready.lines, l.line));
    few = omega (arith, step_few l.has.ready i l.step, l.line);
  }

  pub moved_record : state_count st ≤ held_by st i m
      → record_of (kind_at c m) (step_out c st k i m) (moved_pin c m 1 (i * n)) (moved_pin c m 2 (i * n)) (moved_pin c m 3 (i * n)) ≡ step_record c st k i m
  unfolding record_of step_record step_kind step_pin moved_pin
  moved_record h = rw (sym (held_test st i m) ∙ le-ltb _ _ h, l.has.ready.lines)

  module _ {r : ℕ} (is : r ≡ held_by st i m) (inside : r < state_count st) where
    does_hold : holds st i m ≡ true
    does_hold = sym (held_test st i m) ∙ lt-ltb _ _ (rw is at inside)

    pub later : 1 ≤ i
    later = leb-true 1 i (both (leb 1 i) _ does_hold).0

    held_record_is : r ≡ state_record st m
    held_record_is = is ∙ sym (held-later later)

    pub held-ready : HeldReady st r ((i - 1) * n)
    held-ready = record {
      inside = record_whole l.has.ready r inside;
      few = omega (arith, step_few l.has.ready (i - 1) (omega (arith, l.step)), (l.has.ready.steps.layout r inside).data_inside, l.has.ready.lines);
    }

    pub held_record : record_of 1 (step_out c st k i m) ((i - 1) * n + data_line st r) 0 0 ≡ step_record c st k i m
    unfolding record_of step_record step_kind step_pin data_of
    held_record = rw (does_hold, held_record_is, l.has.ready.lines)

-- The unfolded circuit does what the clocked one does, by any gate rule: where what is forced in the clocked circuit is forced in every step, and leaves
-- the pins of inputs alone, which they lack, line m of step i of the unfolded circuit has the value of line m in step i.
-- Assumes nothing.
use mathlib.Core.Path.{◌≡◌, refl, sym, ap, ◌∙◌}
use mathlib.Core.Bool.{Bool, true, false}
use mathlib.Core.List.{List}
use Prim.Native.Nat.{ℕ, zero, suc, ◌+◌, ◌*◌, ◌-◌, ◌%◌, ◌≤◌, ◌<◌}
use native.Mathlib.Omega.{arith}
use lib.ListN.{length, get_or}
use lib.Seq.{ext_get_or}
use borrow.Author.Tests.{eq-eqb, eqb-false}
use Rattle.ground.specs.Lists.{grow, gather}
use Rattle.ground.proofs.Below.{each_below}
use Rattle.ground.proofs.Gather.{gather-length, gather_at}
use Rattle.ground.proofs.Grow.{grow-length}
use Rattle.gates.specs.Gate.{pins_of}
use Rattle.gates.proofs.Laws.{AtPins, few_pins}
use Rattle.circuit.specs.Record.{lines_of, kind_at, pin_at, is_input, inputs_before}
use Rattle.circuit.specs.Formed.{Good}
use Rattle.states.specs.States.{is_state, data_of}
use Rattle.states.specs.Rules.{lines_after, GoodSteps}
use Rattle.states.proofs.Records.{state_input, data_line_inside}
use Rattle.unfolded.specs.Unfolded.{holds, step_kind, unfolded}
use Rattle.unfolded.specs.Inputs.{input_number}
use Rattle.unfolded.proofs.Steps.{place_of, line_inside, by_steps}
use Rattle.unfolded.proofs.Lines.{held-later, held_state, held_kind, held-pin, kept_kind, kept-pin, line_cases}
use Rattle.unfolded.proofs.Sources.{kind_small, source_below, source_lower}
use Rattle.unfolded.proofs.Fields.{unfolded_kind, unfolded-pin}
use Rattle.unfolded.proofs.Inputs.{inputs_before_lem}
use Rattle.clocked.proofs.Lines.{GateRule, ForcingOf, LeavesInputs, line_by, at_input, at_gate}
use Rattle.clocked.proofs.Steps.{Clocks, step_long, given-there, next_state, on-gate}

-- what is forced in every step
abbrev in_each : {A : Type 0} → ℕ → ForcingOf A → ForcingOf A
in_each n f l s v = f (l % n) s v

module _ {A : Type 0} {gate : ℕ → (ℕ → A) → A} {Value : A → Type 0} (rule : GateRule gate Value) (d : A)
    {c st : List ℕ} {k : ℕ} (good : Good c) (steps : GoodSteps c st k)
    (f : ForcingOf A) (leaves : LeavesInputs c f)
    (given : ℕ → A) {values : ℕ → List A} (clocks : Clocks gate d f c st (λ i m. given (input_number c st i m)) values) where
  abbrev u : List ℕ
  u = unfolded c st k

  abbrev pub unfolded_by : List A
  unfolded_by = grow (line_by gate d (in_each (lines_of c) f) u (λ j. given (inputs_before u j))) (lines_after c k)

  module _ (fine : (j : ℕ) → Value (get_or unfolded_by j d)) where
    abbrev Agree : ℕ → ℕ → Type 0
    Agree i m = get_or unfolded_by (i * lines_of c + m) d ≡ get_or (values i) m d

    module _ (i m : ℕ) (h : i < k) (l : m < lines_of c) where
      abbrev j : ℕ
      j = i * lines_of c + m

      inside : j < lines_after c k
      inside = line_inside (lines_of c) i m l k h

      lower : AtPins (kind_at u j) (λ s. pin_at u j s < j)
      lower s a b =
          let has : s ≤ pins_of (step_kind c st i m) = rw (unfolded_kind c st k i m h l) at b in
          rw (unfolded-pin c st k i m h l good steps s a (omega (arith, few_pins (step_kind c st i m)))) (source_lower good steps i m l s a has)

      -- the gate on line m of step i
      gate-there : is_input u j ≡ false → get_or unfolded_by j d ≡ f m 0 (gate (step_kind c st i m) (λ s. f m s (get_or unfolded_by (pin_at u j s) d)))
      gate-there e =
          at_gate gate d (in_each (lines_of c) f) u (λ j. given (inputs_before u j)) (lines_after c k) j inside rule e
          (rw (unfolded_kind c st k i m h l) (kind_small good steps i m l)) lower
          ∙ rw (place_of (lines_of c) i m l, unfolded_kind c st k i m h l)

      -- a line that is what it is in the circuit: its input has what is put on it in this step, its gate reads the lines of this step
      kept_there : holds st i m ≡ false → ((b : ℕ) → b < m → Agree i b) → Agree i m
      kept_there kept below = go (is_input c m) refl
        where
          kind : kind_at u j ≡ kind_at c m
          kind = unfolded_kind c st k i m h l ∙ kept_kind c st i m kept

          go : (t : Bool) → is_input c m ≡ t → Agree i m
          go true e =
              at_input gate d (in_each (lines_of c) f) u (λ j. given (inputs_before u j)) (lines_after c k) j inside (rw kind e)
              ∙ rw (place_of (lines_of c) i m l, inputs_before_lem c st k i m h (omega arith)) (sym (given-there clocks m l i kept e))
          go false e =
              gate-there (rw kind e)
              ∙ rw (kept_kind c st i m kept)
              (ap (f m 0) (rule.own (kind_at c m) _ _ (omega (arith, eqb-false (kind_at c m) 0 e)) (good.well.kinds m l) pin))
              ∙ sym (on-gate clocks m l rule good i e)
            where
              pin : AtPins (kind_at c m) (λ s. f m s (get_or unfolded_by (pin_at u j s) d) ≡ f m s (get_or (values i) (pin_at c m s) d))
              pin s a b =
                  let source = unfolded-pin c st k i m h l good steps s a (omega (arith, few_pins (kind_at c m))) ∙ kept-pin c st i m kept s b in
                  rw (source, below (pin_at c m s) (source_below good steps i m l s a b))

    -- a state line of a later step: the buffer reads what the data line had a step earlier
    held-there : (i m : ℕ) → suc i < k → m < lines_of c → holds st (suc i) m ≡ true → ((b : ℕ) → b < lines_of c → Agree i b) → Agree (suc i) m
    held-there i m h l held below =
        gate-there (suc i) m h l (rw (unfolded_kind c st k (suc i) m h l, held_kind c st (suc i) m held))
        ∙ rw (held_kind c st (suc i) m held) (ap (f m 0) (rule.buffers sees (rw left (fine (pin_at u (suc i * lines_of c + m) 1))) ∙ left ∙ had))
        ∙ sym (next_state clocks m l i state (eq-eqb (kind_at c m) 0 input))
      where
        state : is_state st m ≡ true
        state = held_state c st (suc i) m held

        input : kind_at c m ≡ 0
        input = state_input steps m state

        sees : ℕ → A
        sees s = f m s (get_or unfolded_by (pin_at u (suc i * lines_of c + m) s) d)

        left : f m 1 (get_or unfolded_by (pin_at u (suc i * lines_of c + m) 1) d) ≡ get_or unfolded_by (pin_at u (suc i * lines_of c + m) 1) d
        left = leaves m 1 (get_or unfolded_by (pin_at u (suc i * lines_of c + m) 1) d) input (omega arith)

        had : get_or unfolded_by (pin_at u (suc i * lines_of c + m) 1) d ≡ get_or (values i) (data_of st m) d
        had =
            let less : suc i - 1 ≡ i = omega arith in
            rw (unfolded-pin c st k (suc i) m h l good steps 1 (omega arith) (omega arith), held-pin c st (suc i) m held, less)
            (below (data_of st m) (data_line_inside steps m state))

    pub unfolds : (i m : ℕ) → i < k → m < lines_of c → Agree i m
    unfolds zero m h =
        each_below (Agree 0) (lines_of c)
        (λ n l below. line_cases c st 0 n (λ held. absurd (omega (arith, held-later c st 0 n held))) (λ kept. kept_there 0 n h l kept below))
        m
    unfolds (suc i) m h =
        each_below (Agree (suc i)) (lines_of c)
        (λ n l below.
        line_cases c st (suc i) n (λ held. held-there i n h l held (λ b. unfolds i b (omega arith))) (λ kept. kept_there (suc i) n h l kept below))
        m

    -- so the values of all lines are those of the steps, one after the other
    pub unfolds_whole : unfolded_by ≡ gather values k
    unfolds_whole =
        ext_get_or d unfolded_by (gather values k)
        (long ∙ sym (gather-length values (lines_of c) (step_long clocks) k))
        (λ j l. by_steps (λ j. get_or unfolded_by j d ≡ get_or (gather values k) j d) (lines_of c) k
        (λ i m h g. unfolds i m h g ∙ sym (gather_at values (lines_of c) (step_long clocks) d k i m h g)) j (omega (arith, long)))
      where
        long : length unfolded_by ≡ lines_after c k
        long = grow-length _ (lines_after c k)

-- With three values: the unfolded circuit does what the clocked one does, whatever is forced in every step, the first step of a clocked circuit is
-- ordinary simulation, and a clock carries the data lines' values to the state lines.
-- Assumes nothing.
use mathlib.Core.Path.{◌≡◌, refl, sym, ◌∙◌}
use mathlib.Core.Bool.{true}
use mathlib.Core.List.{List}
use Prim.Native.Nat.{ℕ, suc, ◌+◌, ◌*◌, ◌<◌}
use native.Mathlib.Omega.{arith}
use lib.ListN.{get_or}
use Rattle.ground.specs.Lists.{gather}
use Rattle.gates.specs.Gate.{gate_of}
use Rattle.gates.specs.Words.{rule_of}
use Rattle.gates.proofs.Values.{three_own}
use Rattle.gates.proofs.Words.{in_words}
use Rattle.gates.proofs.Laws.{gate_same}
use Rattle.circuit.specs.Record.{lines_of}
use Rattle.circuit.specs.Formed.{Good}
use Rattle.simulate.specs.Simulate.{Forcing, in_steps, gate_value, line_value, values_to}
use Rattle.simulate.specs.Owed.{ThreeValued}
use Rattle.simulate.proofs.Small.{values_small}
use Rattle.simulate.proofs.Steps.{steps_three}
use Rattle.states.specs.States.{state_count, data_line, state_line, is_free}
use Rattle.states.specs.Rules.{lines_after, GoodSteps}
use Rattle.unfolded.specs.Unfolded.{unfolded}
use Rattle.unfolded.specs.Inputs.{input_number}
use Rattle.clocked.specs.Clocked.{Given, clocked_values}
use Rattle.clocked.specs.Inputs.{given_by}
use Rattle.clocked.proofs.Lines.{GateRule, LeavesInputs}
use Rattle.clocked.proofs.Steps.{Clocks, free-there, next_record}
use Rattle.clocked.proofs.Unfolds.{unfolds, unfolds_whole}

-- a buffer gives what it sees, if that is 0, 1 or X
gate_rule : GateRule gate_of (λ v. v < 3)
unfolding rule_of
gate_rule = record {
  own = λ kind v w _ _. gate_same kind v w;
  buffers = λ v h. in_words 1 v ∙ sym (three_own (v 1) (omega arith));
}

module _ (f : Forcing) (c st : List ℕ) where
  clocks : (x : Given) → Clocks gate_of 0 f c st x (clocked_values f c st (lines_of c) x)
  unfolding clocked_values gate_value
  clocks x = record { first = refl; next = λ i. refl }

  -- ---- step by step

  pub first_step : (p : List ℕ) → clocked_values f c st (lines_of c) (given_by c st p) 0 ≡ values_to f c p (lines_of c)
  unfolding clocked_values line_value input_number
  first_step p = refl

  module _ (x : Given) where
    -- after a clock the state line of a record shows what its data line had
    pub next_step : {k : ℕ} → GoodSteps c st k → (i r : ℕ) → r < state_count st
        → get_or (clocked_values f c st (lines_of c) x (suc i)) (state_line st r) 0
        ≡ f (state_line st r) 0 (get_or (clocked_values f c st (lines_of c) x i) (data_line st r) 0)
    next_step = next_record (clocks x)

    -- and a free input in every step what is given
    pub free_step : (i m : ℕ) → m < lines_of c → is_free c st m ≡ true → get_or (clocked_values f c st (lines_of c) x i) m 0 ≡ f m 0 (x i m)
    free_step i m l = free-there (clocks x) m l i

-- ---- unfolded

module _ {c st : List ℕ} {k : ℕ} (good : Good c) (steps : GoodSteps c st k) (f : Forcing) (leaves : LeavesInputs c f) (p : List ℕ) (three : ThreeValued f p) where
  small : (j : ℕ) → get_or (values_to (in_steps (lines_of c) f) (unfolded c st k) p (lines_after c k)) j 0 < 3
  small = values_small (steps_three (lines_of c) f three) (unfolded c st k) (lines_after c k)

  pub unfolded_values : (i m : ℕ) → i < k → m < lines_of c
      → get_or (values_to (in_steps (lines_of c) f) (unfolded c st k) p (lines_after c k)) (i * lines_of c + m) 0
      ≡ get_or (clocked_values f c st (lines_of c) (given_by c st p) i) m 0
  unfolding line_value gate_value in_steps
  unfolded_values = unfolds gate_rule 0 good steps f leaves (λ j. get_or p j 0) (clocks f c st (given_by c st p)) small

  -- all lines of all steps
  pub values_in_steps : values_to (in_steps (lines_of c) f) (unfolded c st k) p (lines_after c k) ≡ gather (clocked_values f c st (lines_of c) (given_by c st p)) k
  unfolding line_value gate_value in_steps
  values_in_steps = unfolds_whole gate_rule 0 good steps f leaves (λ j. get_or p j 0) (clocks f c st (given_by c st p)) small

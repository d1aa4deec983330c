-- Over Booleans: the unfolded circuit does what the clocked one does, and so on as with three values.
-- Assumes nothing.
use mathlib.Core.Path.{◌≡◌, refl}
use mathlib.Core.Bool.{true, false}
use mathlib.Core.List.{List}
use Prim.Native.Nat.{ℕ, suc, ◌+◌, ◌*◌, ◌<◌}
use lib.ListN.{get_or}
use Rattle.ground.specs.Lists.{gather}
use Rattle.gates.specs.Boolean.{bool_gate}
use Rattle.gates.proofs.Laws.{bool_same}
use Rattle.circuit.specs.Record.{lines_of}
use Rattle.circuit.specs.Formed.{Good}
use Rattle.simulate.specs.Boolean.{Vector, Truths, truths_in_steps, gate_truth, line_truth, truths_to, truth_at}
use Rattle.states.specs.States.{state_count, data_line, state_line, is_free}
use Rattle.states.specs.Rules.{lines_after, GoodSteps}
use Rattle.unfolded.specs.Unfolded.{unfolded}
use Rattle.unfolded.specs.Inputs.{input_number}
use Rattle.clocked.specs.Boolean.{GivenTruths, clocked_truths}
use Rattle.clocked.specs.Inputs.{truths_by}
use Rattle.clocked.proofs.Lines.{GateRule, LeavesInputs}
use Rattle.clocked.proofs.Steps.{Clocks, free-there, next_record}
use Rattle.clocked.proofs.Unfolds.{unfolds, unfolds_whole}

gate_rule : GateRule bool_gate (λ _. Unit {0})
unfolding bool_gate
gate_rule = record { own = bool_same; buffers = λ v _. refl }

module _ (t : Truths) (c st : List ℕ) where
  clocks : (x : GivenTruths) → Clocks bool_gate false t c st x (clocked_truths t c st (lines_of c) x)
  unfolding clocked_truths gate_truth
  clocks x = record { first = refl; next = λ i. refl }

  -- ---- step by step

  pub first_truths : (x : Vector) → clocked_truths t c st (lines_of c) (truths_by c st x) 0 ≡ truths_to t c x (lines_of c)
  unfolding clocked_truths line_truth input_number
  first_truths x = refl

  module _ (x : GivenTruths) where
    pub next_truths_lem : {k : ℕ} → GoodSteps c st k → (i r : ℕ) → r < state_count st
        → get_or (clocked_truths t c st (lines_of c) x (suc i)) (state_line st r) false
        ≡ t (state_line st r) 0 (get_or (clocked_truths t c st (lines_of c) x i) (data_line st r) false)
    next_truths_lem = next_record (clocks x)

    pub free_truths : (i m : ℕ) → m < lines_of c → is_free c st m ≡ true → get_or (clocked_truths t c st (lines_of c) x i) m false ≡ t m 0 (x i m)
    free_truths i m l = free-there (clocks x) m l i

-- ---- unfolded

module _ {c st : List ℕ} {k : ℕ} (good : Good c) (steps : GoodSteps c st k) (t : Truths) (leaves : LeavesInputs c t) (x : Vector) where
  pub unfolded_truths : (i m : ℕ) → i < k → m < lines_of c
      → truth_at (truths_in_steps (lines_of c) t) (unfolded c st k) x (lines_after c k) (i * lines_of c + m)
      ≡ get_or (clocked_truths t c st (lines_of c) (truths_by c st x) i) m false
  unfolding line_truth gate_truth truths_in_steps
  unfolded_truths = unfolds gate_rule false good steps t leaves x (clocks t c st (truths_by c st x)) (λ _. tt)

  pub truths_in_steps_lem : truths_to (truths_in_steps (lines_of c) t) (unfolded c st k) x (lines_after c k) ≡ gather (clocked_truths t c st (lines_of c) (truths_by c st x)) k
  unfolding line_truth gate_truth truths_in_steps
  truths_in_steps_lem = unfolds_whole gate_rule false good steps t leaves x (clocks t c st (truths_by c st x)) (λ _. tt)

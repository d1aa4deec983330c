-- The unfolded circuit is a circuit that the check accepts: every line keeps its layout, and the sizes hold.
-- Assumes nothing.
use mathlib.Core.Path.{◌≡◌, refl, ◌∙◌}
use mathlib.Core.Bool.{Bool, true, false, ◌&&◌}
use mathlib.Core.List.{List}
use Prim.Native.Nat.{ℕ, suc, ◌+◌, ◌*◌, ◌≤◌, ◌<◌}
use native.Mathlib.Omega.{arith}
use lib.Dec.{eqb}
use Rattle.ground.specs.Choose.{choose}
use Rattle.ground.proofs.Counting.{count_below_lem, nth}
use Rattle.answers.specs.Rules.{refusal, AllHold}
use Rattle.answers.proofs.Rules.{all_hold}
use Rattle.circuit.specs.Record.{lines_of, out_at, is_output, outputs_of}
use Rattle.circuit.specs.Layout.{Pin, Layout}
use Rattle.circuit.specs.Promise.{layout_rules, circuit_rules}
use Rattle.circuit.specs.Formed.{WellFormed, Good}
use Rattle.circuit.proofs.Says.{circuit_says}
use Rattle.circuit.proofs.Accepted.{good}
use Rattle.circuit.proofs.Sizes.{sizes_fine, sizes_decide}
use Rattle.states.specs.States.{is_data}
use Rattle.states.specs.Rules.{lines_after, inputs_after, GoodSteps}
use Rattle.unfolded.specs.Unfolded.{step_out, unfolded}
use Rattle.unfolded.proofs.Steps.{line_inside, by_steps}
use Rattle.unfolded.proofs.Sources.{kind_small, source_lower, source_lacks}
use Rattle.unfolded.proofs.Fields.{unfolded_long, unfolded_lines, unfolded_kind, unfolded_out, unfolded-pin}
use Rattle.unfolded.proofs.Inputs.{unfolded-inputs}
use Rattle.std.specs.Prelude.{Ok}

-- each line of an accepted circuit keeps its layout
pub layouts : (c : List ℕ) → refusal (circuit_rules c) ≡ Ok tt → (m : ℕ) → m < lines_of c → Layout c m
unfolding layout_rules AllHold
layouts c fine = (all_hold (circuit_rules c) (circuit_says c) fine).1.0

module _ {c st : List ℕ} {k : ℕ} (fine : refusal (circuit_rules c) ≡ Ok tt) (steps : GoodSteps c st k) where
  -- ---- the layout

  pub out_bit : (i m : ℕ) → m < lines_of c → step_out c st k i m ≤ 1
  unfolding step_out
  out_bit i m l = go (eqb (suc i) k && is_data st m)
    where
      go : (t : Bool) → choose t 1 (out_at c m) ≤ 1
      go true = omega arith
      go false = (layouts c fine m l).output

  module _ (i m : ℕ) (h : i < k) (l : m < lines_of c) where
    pins : (s : ℕ) → 1 ≤ s → s ≤ 3 → Pin (unfolded c st k) (i * lines_of c + m) s
    pins s a b = record {
      has = λ g.
          rw (unfolded-pin c st k i m h l (good c fine) steps s a b)
          (source_lower (good c fine) steps i m l s a (rw (unfolded_kind c st k i m h l) at g));
      lacks = λ g.
          rw (unfolded-pin c st k i m h l (good c fine) steps s a b)
          (source_lacks (good c fine) steps i m l s (rw (unfolded_kind c st k i m h l) at g));
    }

    line_layout : Layout (unfolded c st k) (i * lines_of c + m)
    line_layout = record {
      kind = rw (unfolded_kind c st k i m h l) (kind_small (good c fine) steps i m l);
      output = rw (unfolded_out c st k i m h l) (out_bit i m l);
      pin = pins;
    }

  pub unfolded_layout : (j : ℕ) → j < lines_after c k → Layout (unfolded c st k) j
  unfolded_layout = by_steps (Layout (unfolded c st k)) (lines_of c) k line_layout

  -- ---- the sizes

  -- an output of the circuit is one in each step
  pub output_stays : (i m : ℕ) → i < k → m < lines_of c → is_output c m ≡ true → is_output (unfolded c st k) (i * lines_of c + m) ≡ true
  unfolding step_out
  output_stays i m h l e = rw (unfolded_out c st k i m h l) (go (eqb (suc i) k && is_data st m))
    where
      go : (t : Bool) → eqb (choose t 1 (out_at c m)) 1 ≡ true
      go true = refl
      go false = e

  pub unfolded_output : 1 ≤ outputs_of (unfolded c st k)
  unfolded_output =
      let w = nth (is_output c) (lines_of c) 0 (good c fine).some_outputs in
      let some : 0 < k = steps.some_steps in
      let at = 0 * lines_of c + w.place in
      rw (unfolded_lines c st k)
      (omega (
        arith,
        count_below_lem (is_output (unfolded c st k)) at (lines_after c k) (line_inside (lines_of c) 0 w.place w.below k some) (output_stays 0 w.place some w.below w.passes),
      ))

  some_lines : 1 ≤ lines_after c k
  some_lines = omega (arith, line_inside (lines_of c) 0 0 (good c fine).some_lines k steps.some_steps)

  -- ---- so it is accepted

  pub unfolded_fine : refusal (circuit_rules (unfolded c st k)) ≡ Ok tt
  unfolded_fine =
      sizes_decide (unfolded c st k) (lines_after c k) (unfolded_long c st k) (λ _. unfolded_layout)
      ∙ sizes_fine (record {
        some_lines = some_lines;
        most_lines = steps.most_lines;
        most_inputs = rw (unfolded-inputs c st k steps.some_steps) steps.most_inputs;
        some_outputs = unfolded_output;
      })

  pub unfolded-good : Good (unfolded c st k)
  unfolded-good = good (unfolded c st k) unfolded_fine

  pub unfolded-formed : WellFormed (unfolded c st k) (inputs_after c st k) (lines_after c k)
  unfolded-formed =
      rw (unfolded-inputs c st k steps.some_steps, unfolded_lines c st k) at unfolded-good.well

-- What is known of a line in a step of the clocked circuit is its truth under every filling of the pattern's X's.
-- Assumes nothing.
use mathlib.Core.Path.{◌≡◌, sym, ap, ◌∙◌}
use mathlib.Core.Bool.{false}
use mathlib.Core.List.{List}
use Prim.Native.Nat.{ℕ, ◌+◌, ◌*◌, ◌<◌}
use lib.ListN.{length, get_or}
use Rattle.ground.specs.Choose.{one}
use Rattle.gates.specs.Gate.{Refines}
use Rattle.circuit.specs.Record.{lines_of, inputs_before}
use Rattle.circuit.specs.Formed.{Good}
use Rattle.simulate.specs.Simulate.{Forcing, in_steps}
use Rattle.simulate.specs.Boolean.{Vector, Truths, truths_in_steps}
use Rattle.simulate.specs.Vectors.{Fills}
use Rattle.simulate.specs.Owed.{ThreeValued}
use Rattle.simulate.proofs.Mono.{Monotone}
use Rattle.simulate.proofs.Alike.{Alike}
use Rattle.simulate.proofs.Fillings.{truth}
use Rattle.simulate.proofs.Steps.{steps_mono, steps_alike}
use Rattle.states.specs.Rules.{lines_after, inputs_after, GoodSteps}
use Rattle.unfolded.specs.Unfolded.{unfolded}
use Rattle.unfolded.proofs.Fields.{unfolded_lines}
use Rattle.unfolded.proofs.Inputs.{unfolded-inputs}
use Rattle.clocked.specs.Clocked.{clocked_values}
use Rattle.clocked.specs.Boolean.{clocked_truths}
use Rattle.clocked.specs.Inputs.{given_by, truths_by}
use Rattle.clocked.proofs.Lines.{LeavesInputs}
use Rattle.clocked.proofs.Faults.{alike_leaves}
use Rattle.clocked.proofs.Values.{unfolded_values}
use Rattle.clocked.proofs.Truths.{unfolded_truths}

module _ {c st : List ℕ} {k : ℕ} (good : Good c) (steps : GoodSteps c st k)
    (f : Forcing) (t : Truths) (mono : Monotone f) (alike : Alike f t) (leaves : LeavesInputs c f)
    (p : List ℕ) (three : ThreeValued f p) (long : length p ≡ inputs_after c st k) (x : Vector) (fills : Fills p x) where
  sized : inputs_before (unfolded c st k) (lines_after c k) ≡ length p
  sized = ap (inputs_before (unfolded c st k)) (sym (unfolded_lines c st k)) ∙ unfolded-inputs c st k steps.some_steps ∙ sym long

  pub clocked_truth : (i m : ℕ) → i < k → m < lines_of c
      → Refines (get_or (clocked_values f c st (lines_of c) (given_by c st p) i) m 0) (one (get_or (clocked_truths t c st (lines_of c) (truths_by c st x) i) m false))
  clocked_truth i m h l =
      rw (← unfolded_values good steps f leaves p three i m h l, ← unfolded_truths good steps t (alike_leaves c f t alike leaves) x i m h l)
      (truth (unfolded c st k) p (lines_after c k) sized x fills
      (in_steps (lines_of c) f) (truths_in_steps (lines_of c) t) (steps_mono (lines_of c) f mono) (steps_alike (lines_of c) f t alike) (i * lines_of c + m))

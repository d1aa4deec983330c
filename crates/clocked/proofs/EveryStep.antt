-- The good circuit, and a fault that is present in every step: the values and truths of the unfolded circuit are those of the clocked one, step by step,
-- and what is known there is so under every filling of the pattern.
-- Assumes nothing.
use mathlib.Core.Path.{◌≡◌}
use mathlib.Core.Bool.{false}
use mathlib.Core.List.{List}
use Prim.Native.Nat.{ℕ, ◌+◌, ◌*◌, ◌<◌}
use native.Mathlib.Omega.{arith}
use lib.ListN.{length, get_or}
use Rattle.ground.specs.Choose.{one}
use Rattle.ground.specs.Lists.{gather}
use Rattle.gates.specs.Gate.{Refines}
use Rattle.circuit.specs.Record.{lines_of}
use Rattle.circuit.specs.Formed.{Good}
use Rattle.lists.specs.Faults.{FaultLayout, fault_at}
use Rattle.simulate.specs.Simulate.{unforced, stuck_at, in_steps, stuck_in_steps, values_to}
use Rattle.simulate.specs.Boolean.{Vector, good, faulty, truths_in_steps, truth_at}
use Rattle.simulate.specs.Vectors.{Fills}
use Rattle.simulate.specs.Work.{good_of}
use Rattle.simulate.specs.Owed.{AllSmall, ThreeValued}
use Rattle.simulate.proofs.Keeps.{unforced_keeps, stuck_keeps}
use Rattle.simulate.proofs.Mono.{unforced_mono, stuck_mono}
use Rattle.simulate.proofs.Alike.{good_alike, faulty_alike}
use Rattle.states.specs.Rules.{lines_after, inputs_after, GoodSteps}
use Rattle.unfolded.specs.Unfolded.{unfolded}
use Rattle.clocked.specs.Clocked.{clocked_values}
use Rattle.clocked.specs.Boolean.{clocked_truths}
use Rattle.clocked.specs.Inputs.{given_by, truths_by}
use Rattle.clocked.proofs.Values.{values_in_steps}
use Rattle.clocked.proofs.Truths.{unfolded_truths}
use Rattle.clocked.proofs.Faults.{unforced-leaves, good-leaves, fault_leaves, faulty-leaves}
use Rattle.clocked.proofs.Fillings.{clocked_truth}

module _ {c st : List ℕ} {k : ℕ} (fine : Good c) (steps : GoodSteps c st k) where
  -- ---- three values

  module _ (p : List ℕ) (small : AllSmall p) where
    unforced_three : ThreeValued unforced p
    unforced_three = record { keeps = unforced_keeps 3; pattern = small }

    pub good_values : good_of (unfolded c st k) p (lines_after c k) ≡ gather (clocked_values unforced c st (lines_of c) (given_by c st p)) k
    unfolding in_steps
    good_values = values_in_steps fine steps unforced (unforced-leaves c) p unforced_three

    module _ (fs : List ℕ) (j : ℕ) (layout : FaultLayout c fs j) where
      stuck_three : ThreeValued (stuck_at (fault_at fs j)) p
      stuck_three = record { keeps = stuck_keeps 3 (fault_at fs j) (omega (arith, layout.value)); pattern = small }

      pub faulty_values : values_to (stuck_in_steps (lines_of c) (fault_at fs j)) (unfolded c st k) p (lines_after c k)
          ≡ gather (clocked_values (stuck_at (fault_at fs j)) c st (lines_of c) (given_by c st p)) k
      faulty_values = values_in_steps fine steps (stuck_at (fault_at fs j)) (fault_leaves c fs j layout) p stuck_three

    -- ---- and fillings

    module _ (long : length p ≡ inputs_after c st k) (x : Vector) (fills : Fills p x) (i m : ℕ) (h : i < k) (l : m < lines_of c) where
      pub good-filled : Refines (get_or (clocked_values unforced c st (lines_of c) (given_by c st p) i) m 0)
          (one (get_or (clocked_truths good c st (lines_of c) (truths_by c st x) i) m false))
      good-filled = clocked_truth fine steps unforced good unforced_mono good_alike (unforced-leaves c) p unforced_three long x fills i m h l

      pub faulty-filled : (fs : List ℕ) (j : ℕ) → FaultLayout c fs j
          → Refines (get_or (clocked_values (stuck_at (fault_at fs j)) c st (lines_of c) (given_by c st p) i) m 0)
          (one (get_or (clocked_truths (faulty (fault_at fs j)) c st (lines_of c) (truths_by c st x) i) m false))
      faulty-filled fs j layout =
          clocked_truth fine steps (stuck_at (fault_at fs j)) (faulty (fault_at fs j)) (stuck_mono (fault_at fs j)) (faulty_alike (fault_at fs j) layout.value)
          (fault_leaves c fs j layout) p (stuck_three fs j layout) long x fills i m h l

  -- ---- Booleans

  module _ (x : Vector) (i m : ℕ) (h : i < k) (l : m < lines_of c) where
    pub good_truths : truth_at good (unfolded c st k) x (lines_after c k) (i * lines_of c + m) ≡ get_or (clocked_truths good c st (lines_of c) (truths_by c st x) i) m false
    unfolding truths_in_steps
    good_truths = unfolded_truths fine steps good (good-leaves c) x i m h l

    pub faulty_truths : (fs : List ℕ) (j : ℕ) → FaultLayout c fs j
        → truth_at (truths_in_steps (lines_of c) (faulty (fault_at fs j))) (unfolded c st k) x (lines_after c k) (i * lines_of c + m)
        ≡ get_or (clocked_truths (faulty (fault_at fs j)) c st (lines_of c) (truths_by c st x) i) m false
    faulty_truths fs j layout = unfolded_truths fine steps (faulty (fault_at fs j)) (faulty-leaves c fs j layout) x i m h l

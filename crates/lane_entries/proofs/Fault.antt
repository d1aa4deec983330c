-- From the words of good and faulty lines to the entries of a fault: below its line in the first step the faulty circuit has the good values.
-- Assumes nothing.
use mathlib.Core.Path.{sym, ap, ◌∙◌}
use mathlib.Core.List.{List}
use Prim.Native.Nat.{ℕ}
use native.Mathlib.Omega.{arith}
use lib.ListN.{get_or}
use Rattle.ground.proofs.Grow.{grow_meet}
use Rattle.lists.specs.declared.Fault.{Fault}
use Rattle.simulate.specs.Simulate.{Forcing, unforced, stuck_in_steps, line_value, values_to}
use Rattle.simulate.specs.Work.{good_of}
use Rattle.simulate.specs.Owed.{StepsReady}
use Rattle.simulate.proofs.Below.{left_below}
use Rattle.simulate.proofs.Steps.{below}
use Rattle.entry.specs.Entry.{entry_under}
use Rattle.columns.specs.declared.EntryLanes.{EntryLanes}
use Rattle.lane_lines.specs.Lines.{lane_pattern}
use Rattle.lane_lines.specs.Owed.{ForcedWordsDone}
use Rattle.lane_entries.specs.Owed.{SameBelow, EntriesFromDone, FaultEntriesDone}

module _ (fault : Fault) (step : ℕ) (c : List ℕ) (n : ℕ) (steps : StepsReady fault step n) where
  abbrev in_all : Forcing
  in_all = stuck_in_steps step fault

  same_below : (p : ℕ → List ℕ) → SameBelow (λ i. good_of c (p i) n) (λ i. values_to in_all c (p i) n) fault.line
  same_below p i k l =
      grow_meet (line_value unforced c (p i)) 0 n fault.line k (omega (arith, steps.line, steps.inside)) l
      ∙ ap (λ (vs : List ℕ). get_or vs k 0) (sym (left_below in_all c (p i) fault.line (below fault step steps.line)))
      ∙ grow_meet (line_value in_all c (p i)) 0 fault.line n k l (omega (arith, steps.line, steps.inside))

  pub entries_made : (w w' : List ℕ) {r : EntryLanes} → ForcedWordsDone in_all c n w w' → EntriesFromDone c n w' fault.line r → FaultEntriesDone in_all c n w w' r
  unfolding entry_under
  entries_made w w' words entries m ps good = record {
    entries_are = entries (λ i. good_of c (lane_pattern m ps i) n) (λ i. values_to in_all c (lane_pattern m ps i) n) (words m ps good) (same_below (lane_pattern m ps));
    words_are = words m ps good;
  }

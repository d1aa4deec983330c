-- `lane_lines::step_lines` meets its contract. The invariant: in every lane the lines below the fault's line of this step are settled.
-- Assumes nothing.
use Prim.Native.Nat.{◌-◌}
use Rattle.lane_lines.proofs.Steps.{SoFar}
use Rattle.lane_lines.proofs.step_lines.Given as goal

abbrev pub invariant-loop-line : goal.invariant-loop-line
invariant-loop-line l = SoFar l.fault l.step l.circuit l.n l.initial.words l.words l.line

abbrev pub decreases-loop-line : goal.decreases-loop-line
decreases-loop-line l = l.n - l.line

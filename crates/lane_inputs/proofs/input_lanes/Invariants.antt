-- `lane_inputs::input_lanes` meets its contract. The invariant: the patterns passed are laid into their lanes.
-- Assumes nothing.
use Rattle.lane_inputs.proofs.Packed.{SoFar}
use Rattle.lane_inputs.proofs.input_lanes.Given as goal

abbrev pub invariant-loop-i : goal.invariant-loop-i
invariant-loop-i l = SoFar l.inputs l.patterns l.input l.ones l.zeros l.i

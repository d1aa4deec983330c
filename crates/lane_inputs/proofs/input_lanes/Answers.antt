-- `lane_inputs::input_lanes` meets its contract. The invariant: the patterns passed are laid into their lanes.
-- Assumes nothing.
use native.Mathlib.Omega.{arith}
use Rattle.lane_inputs.proofs.Packed.{start, lane_below, place_inside, ones_fit, zeros_fit, more, finished}
use Rattle.lane_inputs.proofs.input_lanes.Goals as goal

pub loop-i-init : goal.loop-i-init
loop-i-init c = start _ _ _

pub bounds-patterns-i : goal.bounds-patterns-i
bounds-patterns-i c =
    place_inside c.loop-i.invariant c.requires.0 c.requires.1 (omega arith)

pub lane_bit-ones-requires : goal.lane_bit-ones-requires
lane_bit-ones-requires c =
    lane_below c.loop-i.invariant c.requires.0 c.requires.1 (omega arith)

pub overflow_add-ones : goal.overflow_add-ones
overflow_add-ones c =
    omega (arith, ones_fit c.loop-i.invariant c.requires.0 c.requires.1 (omega arith) c.lane_bit-ones.ensures)

pub lane_bit-zeros-requires : goal.lane_bit-zeros-requires
lane_bit-zeros-requires c =
    lane_below c.loop-i.invariant c.requires.0 c.requires.1 (omega arith)

pub overflow_add-zeros : goal.overflow_add-zeros
overflow_add-zeros c =
    omega (arith, zeros_fit c.loop-i.invariant c.requires.0 c.requires.1 (omega arith) c.lane_bit-zeros.ensures)

pub loop-i-preserved : goal.loop-i-preserved
loop-i-preserved c =
    more c.loop-i.invariant c.requires.0 c.requires.1 (omega arith) c.lane_bit-ones.ensures c.lane_bit-zeros.ensures

pub returns : goal.returns
returns c =
    finished c.loop-i.invariant c.requires.0 c.requires.1 (omega arith)

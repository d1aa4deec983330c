-- `lane_lines::input_or_x` meets its contract: an input reads the patterns, a gate is X until its turn.
-- Assumes nothing.
use Rattle.lane_lines.proofs.Inputs.{input-set, gate-set}
use Rattle.lane_lines.proofs.input_or_x.Goals as goal

pub input_lanes-requires : goal.input_lanes-requires
input_lanes-requires c =
    (c.requires.1, c.requires.2 c.if-circuit-k-eq0.true)

pub returns-then-circuit-k-eq0 : goal.returns-then-circuit-k-eq0
returns-then-circuit-k-eq0 c =
    input-set c.args.circuit.now c.args.inputs c.args.patterns.now c.args.k c.args.used c.if-circuit-k-eq0.true
    (c.requires.2 c.if-circuit-k-eq0.true) c.input_lanes.ensures

pub returns : goal.returns
returns c =
    gate-set c.args.circuit.now c.args.inputs c.args.patterns.now c.args.k c.args.used c.if-circuit-k-eq0.false

-- `lane_lines::stuck_lanes` meets its contract: as the words of any line, with the fault looked at on each of its sites.
-- Assumes nothing.
use native.Mathlib.Omega.{arith}
use Rattle.simulate.specs.Simulate.{stuck_at}
use Rattle.lane_lines.proofs.Line.{source_pair, input-done, gate-done}
use Rattle.lane_lines.proofs.stuck_lanes.Goals as goal

pub returns-then-kind-eq0 : goal.returns-then-kind-eq0
returns-then-kind-eq0 c =
    input-done (stuck_at c.args.fault) c.requires.0 c.requires.1
    (record { ones_fit = omega (arith, c.seen_lanes.type_inv); zeros_fit = omega (arith, c.seen_lanes.type_inv) }) c.if-kind-eq0.true (rw c.lanes_at.ensures at c.seen_lanes.ensures)

pub lanes_at-requires-2 : goal.lanes_at-requires-2
lanes_at-requires-2 c =
    source_pair c.args.words.now c.requires.0 c.requires.1 c.if-kind-eq0.false 1 (omega arith) (omega arith) c.source-i.ensures

pub lanes_at-requires-3 : goal.lanes_at-requires-3
lanes_at-requires-3 c =
    source_pair c.args.words.now c.requires.0 c.requires.1 c.if-kind-eq0.false 2 (omega arith) (omega arith) c.source-j.ensures

pub lanes_at-requires-4 : goal.lanes_at-requires-4
lanes_at-requires-4 c =
    source_pair c.args.words.now c.requires.0 c.requires.1 c.if-kind-eq0.false 3 (omega arith) (omega arith) c.source-select.ensures

pub gate_lanes-requires : goal.gate_lanes-requires
gate_lanes-requires c =
    (omega (arith, c.if-kind-eq0.false), c.requires.0.kinds _ c.requires.1)

pub seen_lanes-requires-2 : goal.seen_lanes-requires-2
seen_lanes-requires-2 c =
    c.requires.2

pub returns : goal.returns
returns c =
    gate-done (stuck_at c.args.fault) c.requires.0 c.requires.1
    (record { ones_fit = omega (arith, c.seen_lanes-2.type_inv); zeros_fit = omega (arith, c.seen_lanes-2.type_inv) }) c.if-kind-eq0.false
    (rw (c.lanes_at-2.ensures, c.source-i.ensures) at c.seen_lanes-a.ensures)
    (rw (c.lanes_at-3.ensures, c.source-j.ensures) at c.seen_lanes-b.ensures)
    (rw (c.lanes_at-4.ensures, c.source-select.ensures) at c.seen_lanes-c.ensures) c.gate_lanes.ensures
    c.seen_lanes-2.ensures

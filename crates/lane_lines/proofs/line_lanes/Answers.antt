-- `lane_lines::line_lanes` meets its contract: an input keeps its words, a gate reads those of its sources.
-- Assumes nothing.
use native.Mathlib.Omega.{arith}
use mathlib.Core.Path.{refl, ap, ◌∙◌}
use Rattle.simulate.specs.Simulate.{unforced}
use Rattle.lane_lines.specs.Owed.{lanes_at}
use Rattle.lane_lines.proofs.Line.{as_read, source_pair, input-done, gate-done}
use Rattle.lane_lines.proofs.line_lanes.Goals as goal

pub returns-then-kind-eq0 : goal.returns-then-kind-eq0
returns-then-kind-eq0 c =
    input-done unforced c.requires.0 c.requires.1 (record { ones_fit = omega (arith, c.lanes_at.type_inv); zeros_fit = omega (arith, c.lanes_at.type_inv) }) c.if-kind-eq0.true (as_read c.lanes_at.ensures)

pub lanes_at-a-requires : goal.lanes_at-a-requires
lanes_at-a-requires c =
    source_pair c.args.words.now c.requires.0 c.requires.1 c.if-kind-eq0.false 1 (omega arith) (omega arith) c.source.ensures

pub lanes_at-b-requires : goal.lanes_at-b-requires
lanes_at-b-requires c =
    source_pair c.args.words.now c.requires.0 c.requires.1 c.if-kind-eq0.false 2 (omega arith) (omega arith) c.source-2.ensures

pub lanes_at-c-requires : goal.lanes_at-c-requires
lanes_at-c-requires c =
    source_pair c.args.words.now c.requires.0 c.requires.1 c.if-kind-eq0.false 3 (omega arith) (omega arith) c.source-3.ensures

pub gate_lanes-requires : goal.gate_lanes-requires
gate_lanes-requires c =
    (omega (arith, c.if-kind-eq0.false), c.requires.0.kinds _ c.requires.1)

pub returns : goal.returns
returns c =
    let w = c.args.words.now in
    gate-done unforced c.requires.0 c.requires.1 (record { ones_fit = omega (arith, c.gate_lanes.type_inv); zeros_fit = omega (arith, c.gate_lanes.type_inv) }) c.if-kind-eq0.false
    (as_read (c.lanes_at-a.ensures ∙ ap (lanes_at w) c.source.ensures))
    (as_read (c.lanes_at-b.ensures ∙ ap (lanes_at w) c.source-2.ensures))
    (as_read (c.lanes_at-c.ensures ∙ ap (lanes_at w) c.source-3.ensures)) c.gate_lanes.ensures (as_read refl)

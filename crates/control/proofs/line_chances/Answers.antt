-- `control::line_chances` meets its contract: an input is certain, a gate's chances have a floor.
-- Assumes nothing.
use Rattle.control.proofs.Lines.{input-line, gate-line}
use Rattle.control.proofs.line_chances.Goals as goal

pub returns-then-circuit-k-eq0 : goal.returns-then-circuit-k-eq0
returns-then-circuit-k-eq0 c = input-line c.requires c.if-circuit-k-eq0.true c.certain.ensures

pub returns : goal.returns
returns c =
    gate-line c.requires (c.floor_chances.ensures _ c.gate_at.ensures)

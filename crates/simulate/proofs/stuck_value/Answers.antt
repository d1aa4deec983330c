-- `simulate::stuck_value` meets its contract: as the value of any line, with the fault looked at on each of its sites.
-- Assumes nothing.
use native.Mathlib.Omega.{arith}
use mathlib.Core.Path.{◌∙◌}
use Rattle.simulate.proofs.Line.{input_in, small_gate_in, source_inside}
use Rattle.simulate.specs.Simulate.{stuck_at}
use Rattle.simulate.proofs.stuck_value.Goals as goal

pub returns-then-kind-eq0 : goal.returns-then-kind-eq0
returns-then-kind-eq0 c _ = c.seen.ensures ∙ input_in (stuck_at _) _ _ _ c.if-kind-eq0.true

pub bounds-values-i : goal.bounds-values-i
bounds-values-i c =
    rw c.source-i.ensures (source_inside c.requires.0 c.requires.1 c.if-kind-eq0.false 1 (omega arith) (omega arith))

pub bounds-values-j : goal.bounds-values-j
bounds-values-j c =
    rw c.source-j.ensures (source_inside c.requires.0 c.requires.1 c.if-kind-eq0.false 2 (omega arith) (omega arith))

pub bounds-values-select : goal.bounds-values-select
bounds-values-select c =
    rw c.source-select.ensures (source_inside c.requires.0 c.requires.1 c.if-kind-eq0.false 3 (omega arith) (omega arith))

pub returns : goal.returns
returns c small =
    c.seen-2.ensures
    ∙ small_gate_in (stuck_at _) _ _ _ c.if-kind-eq0.false
    (rw (← c.source-i.ensures) c.seen-a.ensures)
    (rw (← c.source-j.ensures) c.seen-b.ensures)
    (rw (← c.source-select.ensures) c.seen-c.ensures) c.gate.ensures small

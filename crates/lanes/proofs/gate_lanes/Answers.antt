-- `lanes::gate_lanes` meets its contract: each step is done in every lane, and the whole is what the table says.
-- Assumes nothing.
use native.Mathlib.Omega.{arith}
use Rattle.lanes.proofs.Shape.{all_steps, one_step}
use Rattle.lanes.proofs.gate_lanes.Goals as goal

pub returns-then-kind-eq-SELECTOR : goal.returns-then-kind-eq-SELECTOR
returns-then-kind-eq-SELECTOR c = one_step c.if-kind-eq-SELECTOR.true c.chosen.ensures

pub returns : goal.returns
returns c =
    let kind = c.requires in
    all_steps kind.0 (omega (arith, kind.1, c.if-kind-eq-SELECTOR.false)) c.turns_pins-turn.ensures c.turns_result.ensures c.turned-x.ensures
    c.second.ensures c.turned-y.ensures c.core.ensures c.turned.ensures

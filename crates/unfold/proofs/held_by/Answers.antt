-- `unfold::held_by` meets its contract: none in the first step, none of a gate, else the first record.
-- Assumes nothing.
use mathlib.Core.Path.{◌∙◌}
use Rattle.unfold.proofs.Line.{held_none, held-gate, held-later}
use Rattle.unfold.proofs.held_by.Goals as goal

pub returns-then-i-lt1 : goal.returns-then-i-lt1
returns-then-i-lt1 c = held_none c.requires c.if-i-lt1.true

pub returns-then-circuit-m-ne0 : goal.returns-then-circuit-m-ne0
returns-then-circuit-m-ne0 c =
    held-gate c.requires c.if-i-lt1.false c.if-circuit-m-ne0.true

pub returns : goal.returns
returns c =
    c.state_record.ensures ∙ held-later c.requires c.if-i-lt1.false

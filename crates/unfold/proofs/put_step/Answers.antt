-- `unfold::put_step` meets its contract. The invariant: the records of the lines below m are written.
-- Assumes nothing.
use Rattle.unfold.proofs.Steps.{step_none, line_room, step_more, step_all}
use Rattle.unfold.proofs.put_step.Goals as goal

pub loop-m-init : goal.loop-m-init
loop-m-init c = step_none _ _ _ _ _ _ _

pub put_step_line-at-requires : goal.put_step_line-at-requires
put_step_line-at-requires c =
    (record { has = c.requires.0; step = c.requires.1; line = c.loop-m-test.true }, line_room c.loop-m.invariant c.loop-m-test.true c.requires.2)

pub loop-m-preserved : goal.loop-m-preserved
loop-m-preserved c =
    step_more c.loop-m.invariant c.loop-m-test.true c.put_step_line-at.ensures

pub returns : goal.returns
returns c = step_all c.loop-m.invariant c.loop-m-test.false

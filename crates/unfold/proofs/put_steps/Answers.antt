-- `unfold::put_steps` meets its contract. The invariant: the records of the steps below i are written.
-- Assumes nothing.
use Rattle.unfold.proofs.Steps.{steps_none, step_room, steps_more, steps_all}
use Rattle.unfold.proofs.put_steps.Goals as goal

pub loop-i-init : goal.loop-i-init
loop-i-init c = steps_none _ _ _ _

pub put_step-at-requires : goal.put_step-at-requires
put_step-at-requires c =
    (c.requires.0, c.loop-i-test.true, rw c.requires.0.ready.lines (step_room c.loop-i.invariant c.requires.1 c.loop-i-test.true))

pub loop-i-preserved : goal.loop-i-preserved
loop-i-preserved c =
    steps_more c.loop-i.invariant c.requires.1 c.loop-i-test.true (rw c.requires.0.ready.lines at c.put_step-at.ensures)

pub returns : goal.returns
returns c = steps_all c.loop-i.invariant c.requires.1 c.loop-i-test.false

-- `unfold::put_steps` meets its contract. The invariant: the records of the steps below i are written.
-- Assumes nothing.
use Rattle.unfold.proofs.Steps.{StepsSoFar}
use Rattle.unfold.proofs.put_steps.Given as goal

abbrev pub invariant-loop-i : goal.invariant-loop-i
invariant-loop-i l = StepsSoFar l.circuit l.states l.steps l.initial.buffer l.buffer l.at l.i

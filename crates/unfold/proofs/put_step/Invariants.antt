-- `unfold::put_step` meets its contract. The invariant: the records of the lines below m are written.
-- Assumes nothing.
use Rattle.unfold.proofs.Steps.{StepSoFar}
use Rattle.unfold.proofs.put_step.Given as goal

abbrev pub invariant-loop-m : goal.invariant-loop-m
invariant-loop-m l = StepSoFar l.circuit l.states l.steps l.i l.n l.initial.buffer l.buffer l.from l.at l.m

-- `setting::take_inputs` meets its contract: line by line, with the number of inputs so far.
-- Assumes nothing.
use Rattle.setting.proofs.Inputs.{Inputs}
use Rattle.setting.proofs.take_inputs.Given as goal

abbrev pub invariant-loop-k : goal.invariant-loop-k
invariant-loop-k l = Inputs l.circuit l.want l.initial.test l.test l.k l.used

-- `simulate::put_inputs` meets its contract. The invariant: the inputs' lines passed hold their values.
-- Assumes nothing.
use lib.ListN.{length}
use Rattle.simulate.proofs.Inputs.{SoFar}
use Rattle.simulate.proofs.put_inputs.Given as goal

abbrev pub invariant-loop-k : goal.invariant-loop-k
invariant-loop-k l = SoFar l.circuit l.pattern (length l.initial.values) l.values l.k l.used

-- `simulate::simulate_lines` meets its contract. The invariant: under every pattern and forcing of 0, 1 and X that leaves these lines alone, the lines passed are settled.
-- Assumes nothing.
use Rattle.simulate.specs.Owed.{ThreeValued}
use Rattle.simulate.proofs.Settled.{SoFar}
use Rattle.simulate.proofs.simulate_lines.Given as goal

abbrev pub invariant-loop-k : goal.invariant-loop-k
invariant-loop-k l = SoFar ThreeValued l.circuit l.initial.values l.start l.end l.values l.k

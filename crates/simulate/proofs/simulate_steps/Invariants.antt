-- `simulate::simulate_steps` meets its contract. The invariant: the lines below the fault's line of this step are settled.
-- Assumes nothing.
use Prim.Native.Nat.{◌-◌}
use lib.ListN.{length}
use Rattle.simulate.specs.Owed.{ThreeValued}
use Rattle.simulate.proofs.Steps.{SoFar}
use Rattle.simulate.proofs.simulate_steps.Given as goal

abbrev pub invariant-loop-line : goal.invariant-loop-line
invariant-loop-line l = SoFar l.fault l.step ThreeValued l.circuit l.initial.values l.values l.line

abbrev pub decreases-loop-line : goal.decreases-loop-line
decreases-loop-line l = length l.initial.values - l.line

-- `simulate::simulate_steps` meets its contract. The invariant: the lines below the fault's line of this step are settled.
-- Assumes nothing.
use Prim.Native.Nat.{◌+◌}
use native.Mathlib.Omega.{arith}
use Rattle.simulate.specs.Owed.{ThreeValued}
use Rattle.simulate.proofs.Steps as steps
use Rattle.simulate.proofs.Steps.{SoFar, after_line, more, finished}
use Rattle.simulate.proofs.simulate_steps.Goals as goal
use Rattle.simulate.proofs.simulate_steps.Goals.{After-simulate_fault}

-- one step more
stepped : (c : After-simulate_fault) → SoFar c.args.fault c.args.step ThreeValued c.args.circuit.now c.args.values.now c.simulate_fault.new.values (c.loop-line.line + c.args.step)
stepped c = more _ _ c.loop-line.invariant (omega arith) c.min.ensures c.simulate_fault.auto.values c.simulate_fault.ensures

pub loop-line-init : goal.loop-line-init
loop-line-init c = steps.start c.args.fault c.args.step ThreeValued _ _ c.requires.1

pub overflow_add-next : goal.overflow_add-next
overflow_add-next c = omega (arith, c.requires.1.inside, c.requires.1.most)

pub simulate_fault-requires : goal.simulate_fault-requires
simulate_fault-requires c =
    rw c.loop-line.invariant.long (c.requires.0, after_line c.args.fault c.args.step c.min.ensures (omega (arith, c.requires.1.line)) c.loop-line-test.true)

pub loop-line-smaller : goal.loop-line-smaller
loop-line-smaller c = omega (arith, c.requires.1.line)

pub loop-line-preserved : goal.loop-line-preserved
loop-line-preserved c = stepped (goal.at.loop-line-preserved c).After-simulate_fault

pub returns : goal.returns
returns c = finished _ _ c.loop-line.invariant c.loop-line-test.false

pub returns-2 : goal.returns-2
returns-2 c = finished _ _ (stepped (goal.at.returns-2 c).After-simulate_fault) (omega arith)

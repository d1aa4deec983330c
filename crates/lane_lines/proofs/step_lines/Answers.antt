-- `lane_lines::step_lines` meets its contract. The invariant: in every lane the lines below the fault's line of this step are settled.
-- Assumes nothing.
use Prim.Native.Nat.{◌+◌}
use native.Mathlib.Omega.{arith}
use Rattle.simulate.proofs.Steps.{after_line}
use Rattle.lane_lines.proofs.Steps as steps
use Rattle.lane_lines.proofs.Steps.{SoFar, more, finished}
use Rattle.lane_lines.proofs.step_lines.Goals as goal
use Rattle.lane_lines.proofs.step_lines.Goals.{After-fault_lines}

-- one step more
stepped : (c : After-fault_lines) → SoFar c.args.fault c.args.step c.args.circuit.now c.args.n c.args.words.now c.fault_lines.new.words (c.loop-line.line + c.args.step)
stepped c = more _ _ c.loop-line.invariant (omega arith) c.min.ensures c.fault_lines.auto.words c.fault_lines.ensures

pub loop-line-init : goal.loop-line-init
loop-line-init c = steps.start c.args.fault c.args.step _ _ _ c.requires.1

pub overflow_add-next : goal.overflow_add-next
overflow_add-next c =
    omega (arith, c.requires.1.inside, c.requires.1.most)

pub fault_lines-requires : goal.fault_lines-requires
fault_lines-requires c =
    (rw c.loop-line.invariant.long c.requires.0, after_line c.args.fault c.args.step c.min.ensures (omega (arith, c.requires.1.line)) (omega arith), c.requires.2)

pub loop-line-smaller : goal.loop-line-smaller
loop-line-smaller c =
    omega (arith, c.requires.1.line)

pub loop-line-preserved : goal.loop-line-preserved
loop-line-preserved c = stepped (goal.at.loop-line-preserved c).After-fault_lines

pub returns : goal.returns
returns c = finished _ _ c.loop-line.invariant (omega arith)

pub returns-2 : goal.returns-2
returns-2 c = finished _ _ (stepped (goal.at.returns-2 c).After-fault_lines) (omega arith)

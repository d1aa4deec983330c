-- `unfold::step_out` meets its contract: a marked line of the last step is an output, else what the circuit says.
-- Assumes nothing.
use native.Mathlib.Omega.{arith}
use Rattle.unfold.proofs.Line.{out_before, out_marked, out_unmarked}
use Rattle.unfold.proofs.step_out.Goals as goal

pub returns-then-before_last : goal.returns-then-before_last
returns-then-before_last c = out_before c.requires (λ e. omega arith)

pub returns-then-marks-m-eq1 : goal.returns-then-marks-m-eq1
returns-then-marks-m-eq1 c = out_marked c.requires (omega arith) c.if-marks-m-eq1.true

pub returns : goal.returns
returns c = out_unmarked c.requires (omega arith) c.if-marks-m-eq1.false

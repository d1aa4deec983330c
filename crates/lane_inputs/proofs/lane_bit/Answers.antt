-- `lane_inputs::lane_bit` meets its contract: a bit shifted to its lane, or none.
-- Assumes nothing.
use mathlib.Core.Path.{sym}
use native.Mathlib.Nat.{zero-mul}
use native.Mathlib.Omega.{arith}
use lib.Pow.{shl_exact}
use Rattle.lane_inputs.proofs.lane_bit.Goals as goal

pub returns-then-test : goal.returns-then-test
returns-then-test c = rw c.if-test.true (shl_exact 1 c.args.i 64 (omega arith) (omega arith))

pub returns-else-test : goal.returns-else-test
returns-else-test c = rw c.if-test.false (sym (zero-mul _))

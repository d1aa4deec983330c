-- `counts::count_cell` meets its contract: counts go round at 256.
-- Assumes nothing.
use native.Mathlib.Omega.{arith}
use Rattle.counts.proofs.count_cell.Goals as goal

pub returns-then-into : goal.returns-then-into
returns-then-into c = rw c.if-into.true

pub returns-else-into : goal.returns-else-into
returns-else-into c = rw c.if-into.false (omega arith)

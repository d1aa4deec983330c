-- `syntax::put_rows` meets its contract: each character is put as the beginning of its row.
-- Assumes nothing.
use Rattle.syntax.proofs.Rows.{start, more, all}
use native.Mathlib.Omega.{arith}
use Rattle.syntax.proofs.put_rows.Goals as goal

pub loop-k-init : goal.loop-k-init
loop-k-init c = start _ c.requires.1

pub loop-k-preserved : goal.loop-k-preserved
loop-k-preserved c = more c.loop-k.invariant (omega arith) c.row_of.ensures

pub returns : goal.returns
returns c = all c.loop-k.invariant c.requires.0 (omega arith)

-- `reports::narrow` meets its contract. The invariant: the first f marks stand.
-- Assumes nothing.
use native.Mathlib.Omega.{arith}
use Rattle.ground.proofs.Laid.{laying_none, laying_more, laying_all}
use Rattle.reports.proofs.narrow.Goals as goal

pub loop-f-init : goal.loop-f-init
loop-f-init c = laying_none _ _ _

pub loop-f-preserved : goal.loop-f-preserved
loop-f-preserved c = laying_more c.loop-f.invariant (omega arith) c.mark_after.ensures

pub returns : goal.returns
returns c = laying_all c.loop-f.invariant (omega arith) (omega arith)

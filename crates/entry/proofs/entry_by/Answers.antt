-- `entry::entry_by` meets its contract. The invariant: no line passed differs, and r is pass if all passed.
-- Assumes nothing.
use native.Mathlib.Omega.{arith}
use Rattle.entry.proofs.Loop.{start, more, failed, finished, in_halves}
use Rattle.entry.proofs.entry_by.Goals as goal

pub loop-k-init : goal.loop-k-init
loop-k-init c = start _ _ _ _ _

pub returns-then-s-eq-FAIL : goal.returns-then-s-eq-FAIL
returns-then-s-eq-FAIL c =
    let work = c.args.work.now in
    failed c.loop-k.invariant (omega arith) (in_halves _ _ work (omega arith) c.status-s.ensures) c.if-s-eq-FAIL.true

pub loop-k-preserved : goal.loop-k-preserved
loop-k-preserved c =
    let work = c.args.work.now in
    rw c.joined-r.ensures
    (more c.loop-k.invariant (omega arith) (in_halves _ _ work (omega arith) c.status-s.ensures) c.if-s-eq-FAIL.false)

pub returns : goal.returns
returns c = finished c.loop-k.invariant (omega arith)

-- `meetings::meet_all` meets its contract. The invariant: the faults passed have come to the node, and the good values stand.
-- Assumes nothing.
use native.Mathlib.Omega.{arith}
use Rattle.meetings.proofs.Coming.{start, next-ready, more}
use Rattle.meetings.proofs.meet_all.Goals as goal

pub loop-i-init : goal.loop-i-init
loop-i-init c =
    start c.args.list.budgets.now c.args.level (c.args.reaches.now, c.args.counts.now, c.args.tests.now) c.requires.good

pub meet_at-requires : goal.meet_at-requires
meet_at-requires c =
    (next-ready c.loop-i.invariant c.requires, omega arith)

pub loop-i-preserved : goal.loop-i-preserved
loop-i-preserved c =
    let so = c.loop-i.invariant in
    more so (omega (arith, so.sizes.reaches))
    (record { reaches = c.meet_at.auto.reaches; counts = c.meet_at.auto.counts; tests = c.meet_at.auto.tests })
    c.meet_at.auto.work
    c.meet_at.ensures

pub returns : goal.returns
returns c =
    let so = c.loop-i.invariant in
    λ j b. so.done j (omega (arith, so.sizes.reaches)) b

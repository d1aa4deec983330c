-- `meetings::meet_at` meets its contract: a fault below the level leaves as it came, another finds its test lent.
-- Assumes nothing.
use mathlib.Core.Path.{◌∙◌}
use native.Mathlib.Omega.{arith}
use Rattle.lists.proofs.Parts.{lent_long}
use Rattle.meetings.specs.Owed.{Held}
use Rattle.meetings.proofs.Held.{test_fits, unmet, meet_ready, met_back}
use Rattle.meetings.proofs.meet_at.Goals as goal

pub returns-then-reaches-i : goal.returns-then-reaches-i
returns-then-reaches-i c =
    let held : Held = (c.args.reaches.now, c.args.counts.now, c.args.tests.now) in
    unmet c.args.alone c.args.list.budgets.now held c.requires.0 c.requires.1 (omega arith)

pub overflow_mul-at : goal.overflow_mul-at
overflow_mul-at c = omega (arith, test_fits c.requires.0.list c.requires.1)

pub overflow_add-to : goal.overflow_add-to
overflow_add-to c = omega (arith, test_fits c.requires.0.list c.requires.1)

pub meet-met-requires : goal.meet-met-requires
meet-met-requires c =
    let held : Held = (c.args.reaches.now, c.args.counts.now, c.args.tests.now) in
    meet_ready c.args.alone c.args.list.budgets.now held c.requires.0 c.requires.1 c.read_fault.ensures

pub returns : goal.returns
returns c =
    let held : Held = (c.args.reaches.now, c.args.counts.now, c.args.tests.now) in
    let looks = c.if-reaches-i.false in
    met_back c.args.alone c.args.list.budgets.now held c.requires.0 c.requires.1 c.read_fault.ensures (omega arith)
    (c.meet-met.auto.test ∙ lent_long _ _ c.args.tests.now (test_fits c.requires.0.list c.requires.1))
    c.meet-met.ensures

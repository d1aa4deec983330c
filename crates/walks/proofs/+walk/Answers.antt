-- `walks::walk` meets its contract: the round, then the walk through each side of the first X.
-- Assumes nothing.
use mathlib.Core.Path.{◌≡◌, sym, ◌∙◌, subst}
use Prim.Native.Nat.{◌<◌}
use native.Mathlib.Omega.{arith}
use lib.ListN.{length, set}
use Rattle.nodes.specs.Node.{Node, count_x}
use Rattle.nodes.proofs.Node.{fewer, set-again}
use Rattle.meetings.specs.Owed.{Held}
use Rattle.meetings.proofs.Coming.{SameSize, then}
use Rattle.walks.proofs.Sides.{side-ready, ready_of, walk_of, walk_sides}
use Rattle.walks.proofs.+walk.Goals as goal

-- all calls keep the sizes
same_size : (h h' : Held) → length h'.0 ≡ length h.0 → length h'.1 ≡ length h.1 → length h'.2 ≡ length h.2 → SameSize h h'
same_size h h' r k t = record { reaches = r; counts = k; tests = t }

pub walk-requires : goal.walk-requires
walk-requires t c =
    let first = c.round-at.ensures.first (omega arith) in
    let e = c.round-at.auto in (
      fewer (omega arith) first c.decreases,
      side-ready 0 (omega arith) first (same_size _ _ e.reaches e.counts e.tests) e.work c.requires,
    )

-- the node is first known as the first side left it: `again` says that this is the entry's with a 1
pub walk-requires-2 : goal.walk-requires-2
walk-requires-2 t c =
    let first = c.round-at.ensures.first (omega arith) in
    let e = c.round-at.auto in
    let f = c.walk.auto in
    let again = set-again c.args.node.now c.round-at.result 0 1 c.walk.ensures.node in
    let falls : count_x (set c.args.node.now c.round-at.result 1) < t = fewer (omega arith) first c.decreases in (
      subst (λ (s : Node). count_x s < t) (sym again) falls,
      ready_of (sym again)
          (side-ready 1 (omega arith) first
          (then (same_size _ _ e.reaches e.counts e.tests) (same_size _ _ f.reaches f.counts f.tests))
          (f.work ∙ e.work) c.requires),
    )

pub returns : goal.returns
returns t c =
    let e = c.round-at.auto in
    let f = c.walk.auto in
    let again = set-again c.args.node.now c.round-at.result 0 1 c.walk.ensures.node in
    walk_sides {h = (c.args.reaches.now, c.args.counts.now, c.args.tests.now)}
    {h1 = (c.round-at.new.reaches, c.round-at.new.counts, c.round-at.new.tests)}
    {h2 = (c.walk.new.reaches, c.walk.new.counts, c.walk.new.tests)}
    {h3 = (c.walk-2.new.reaches, c.walk-2.new.counts, c.walk-2.new.tests)} c.requires.levels (c.round-at.ensures.first (omega arith))
    c.round-at.ensures (same_size _ _ e.reaches e.counts e.tests)
    c.walk.ensures (same_size _ _ f.reaches f.counts f.tests)
    (walk_of again c.walk-2.ensures)

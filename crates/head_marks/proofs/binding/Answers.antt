-- `head_marks::binding` meets its contract: one answer for each branch.
-- Assumes nothing.
use Prim.Native.Nat.{◌<◌}
use lib.ListN.{length}
use native.Mathlib.Omega.{arith}
use borrow.Author.Tests.{eq-eqb, ne_eqb}
use Rattle.head_marks.specs.Owed.{binds}
use Rattle.head_marks.proofs.binding.Goals as goal
use Rattle.head_marks.proofs.binding.Goals.{After-source-i}

below : (c : After-source-i) → c.source-i.result < length c.args.marks.now
below c = omega (arith, c.source-i.ensures, c.requires.0.inside c.args.k c.args.s c.requires.2 c.requires.3 c.requires.4)

pub bounds-reads-i : goal.bounds-reads-i
bounds-reads-i c = omega (arith, below (goal.at.bounds-reads-i c).After-source-i)

pub bounds-marks-i : goal.bounds-marks-i
bounds-marks-i c = below (goal.at.bounds-marks-i c).After-source-i

pub returns-then-reads-i-eq2 : goal.returns-then-reads-i-eq2
unfolding binds
returns-then-reads-i-eq2 c = rw (← c.source-i.ensures, eq-eqb _ _ c.if-reads-i-eq2.true)

pub returns-else-reads-i-eq2 : goal.returns-else-reads-i-eq2
unfolding binds
returns-else-reads-i-eq2 c = rw (← c.source-i.ensures, ne_eqb _ _ c.if-reads-i-eq2.false)

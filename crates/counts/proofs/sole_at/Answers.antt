-- `counts::sole_at` meets its contract: by whether g is detected, its entry, and the row.
-- Assumes nothing.
use Rattle.std.proofs.Common.{arith, tests}
use Rattle.counts.specs.Owed.{sole_at}
use Rattle.counts.proofs.Only.{one-not}
use Rattle.counts.proofs.sole_at.Goals as goal

pub returns-then-entry-le1 : goal.returns-then-entry-le1
unfolding sole_at
returns-then-entry-le1 c = let r = one-not _ c.sole_in.ensures in grind (arith, tests)

pub returns-else-entry-le1 : goal.returns-else-entry-le1
unfolding sole_at
returns-else-entry-le1 c = grind (arith, tests)

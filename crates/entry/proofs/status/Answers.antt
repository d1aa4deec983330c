-- `entry::status` meets its contract: one answer for each branch.
-- Assumes nothing.
use borrow.Author.Tests.{ne_eqb}
use Rattle.entry.specs.Owed.{status_by}
use Rattle.entry.proofs.status.Goals as goal

pub returns-then-circuit-k-ne1 : goal.returns-then-circuit-k-ne1
unfolding status_by
returns-then-circuit-k-ne1 c = simp (ne_eqb _ _ c.if-circuit-k-ne1.true)

pub returns : goal.returns
returns c = rw c.if-circuit-k-ne1.false c.compare.ensures

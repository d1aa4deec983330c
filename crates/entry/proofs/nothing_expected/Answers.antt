-- `entry::nothing_expected` meets its contract: one answer for each branch.
-- Assumes nothing.
use Rattle.entry.proofs.nothing_expected.Goals as goal

pub returns-then-masks : goal.returns-then-masks
returns-then-masks c = rw c.if-masks.true

pub returns-else-masks : goal.returns-else-masks
returns-else-masks c = rw c.if-masks.false

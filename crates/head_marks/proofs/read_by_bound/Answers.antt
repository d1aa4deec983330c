-- `head_marks::read_by_bound` meets its contract: a bound line stays one, every other is read by one now.
-- Assumes nothing.
use Rattle.head_marks.proofs.Pins.{stays_bound, becomes_read}
use Rattle.head_marks.proofs.read_by_bound.Goals as goal

pub returns-then-mark-eq2 : goal.returns-then-mark-eq2
returns-then-mark-eq2 c = stays_bound c.if-mark-eq2.true

pub returns-else-mark-eq2 : goal.returns-else-mark-eq2
returns-else-mark-eq2 c = becomes_read c.if-mark-eq2.false

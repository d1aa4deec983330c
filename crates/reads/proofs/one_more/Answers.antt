-- `reads::one_more` meets its contract: the first reading makes 1, every other 2.
-- Assumes nothing.
use Rattle.reads.proofs.Counted.{first_more, next_more}
use Rattle.reads.proofs.one_more.Goals as goal

pub returns-then-read-eq-UNREAD : goal.returns-then-read-eq-UNREAD
returns-then-read-eq-UNREAD c = first_more c.if-read-eq-UNREAD.true

pub returns-else-read-eq-UNREAD : goal.returns-else-read-eq-UNREAD
returns-else-read-eq-UNREAD c = next_more c.if-read-eq-UNREAD.false

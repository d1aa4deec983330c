-- `reports::no_mark` meets its contract: by its test.
-- Assumes nothing.
use borrow.Author.Tests.{lt-ltb, le-ltb}
use Rattle.reports.proofs.no_mark.Goals as goal

pub returns-then-f-n : goal.returns-then-f-n
returns-then-f-n c = simp (lt-ltb _ _ c.if-f-n.true)

pub returns : goal.returns
returns c = simp (le-ltb _ _ c.if-f-n.false)

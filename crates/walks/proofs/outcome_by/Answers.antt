-- `walks::outcome_by` meets its contract: a case for each branch.
-- Assumes nothing.
use borrow.Author.Tests.{le-leb, lt-leb}
use native.Mathlib.Omega.{arith}
use Rattle.walks.proofs.outcome_by.Goals as goal

pub returns-then-reach-ge3 : goal.returns-then-reach-ge3
returns-then-reach-ge3 c = simp (le-leb 3 c.args.reach c.if-reach-ge3.true)

pub returns-else-reach-ge3 : goal.returns-else-reach-ge3
returns-else-reach-ge3 c = simp (lt-leb 3 c.args.reach (omega arith))

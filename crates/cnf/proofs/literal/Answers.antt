-- `cnf::literal` meets its contract: the variable, or its negation.
-- Assumes nothing.
use Rattle.cnf.proofs.Signed.{plus_back, minus_back}
use Rattle.cnf.specs.Owed.{signed}
use Rattle.cnf.proofs.literal.Goals as goal

pub returns-then-negated : goal.returns-then-negated
unfolding signed
returns-then-negated c = rw c.if-negated.true (minus_back c.requires c.minus.ensures)

pub returns : goal.returns
unfolding signed
returns c = rw c.if-negated.false (plus_back c.requires c.plus.ensures)

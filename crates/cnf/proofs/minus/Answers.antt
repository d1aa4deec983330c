-- `cnf::minus` meets its contract: the negation is read back from its bits.
-- Assumes nothing.
use Rattle.cnf.proofs.Signed.{taken_fits, taken_is}
use Rattle.cnf.proofs.minus.Goals as goal

pub overflow_sub-result : goal.overflow_sub-result
overflow_sub-result c = taken_fits _ c.requires

pub returns : goal.returns
returns c = taken_is _ c.requires

-- `cnf::plus` meets its contract: the number is read back from its bits.
-- Assumes nothing.
use Rattle.cnf.proofs.Signed.{plus_is}
use Rattle.cnf.proofs.plus.Goals as goal

pub returns : goal.returns
returns c = plus_is _ c.requires

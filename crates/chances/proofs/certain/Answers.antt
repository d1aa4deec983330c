-- `chances::certain` meets its contract.
-- Assumes nothing.
use Rattle.halves.proofs.Laws.{one-is}
use Rattle.chances.proofs.certain.Goals as goal

pub returns : goal.returns
returns c = record { one = one-is; zero = one-is }

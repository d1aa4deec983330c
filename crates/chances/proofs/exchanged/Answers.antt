-- `chances::exchanged` meets its contract.
-- Assumes nothing.
use Rattle.chances.proofs.exchanged.Goals as goal

pub returns : goal.returns
returns c e p = record { one = p.zero; zero = p.one }

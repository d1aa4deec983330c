-- `lists::read_fault` meets its contract: each field is read where the record has it.
-- Assumes nothing.
use Rattle.lists.proofs.read_fault.Goals as goal

pub returns : goal.returns
returns c = rw c.pair_at-line.ensures

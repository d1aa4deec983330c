-- `nets::read_order_in` meets its contract: the records that were written are handed over.
-- Assumes nothing.
use Rattle.nets.proofs.read_order_in.Goals as goal

pub returns : goal.returns
returns c = rw c.put_records.ensures at c.hand_over.ensures

-- `unfold::put_held` meets its contract: a buffer of the data line.
-- Assumes nothing.
use Rattle.unfold.proofs.put_held.Goals as goal

pub returns : goal.returns
returns c =
    rw (c.narrow-from.ensures, c.data_line.ensures) at c.put_record.ensures

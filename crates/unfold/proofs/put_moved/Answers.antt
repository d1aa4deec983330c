-- `unfold::put_moved` meets its contract: the record of the line's kind with its three sources.
-- Assumes nothing.
use Rattle.unfold.proofs.put_moved.Goals as goal

pub returns : goal.returns
returns c =
    rw (← c.moved-first.ensures, ← c.moved-second.ensures, ← c.moved-third.ensures) c.put_record.ensures

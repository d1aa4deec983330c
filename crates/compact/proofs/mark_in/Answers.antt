-- `compact::mark_in` meets its contract: the counts start at 0.
-- Assumes nothing.
use Rattle.tallies.proofs.Tallies.{cleared}
use Rattle.compact.proofs.mark_in.Goals as goal

pub mark_all-requires : goal.mark_all-requires
mark_all-requires g c =
    record { cleared = cleared _ c.requires.room.0; sized = c.requires.sized; marks_len = c.requires.marks_len }

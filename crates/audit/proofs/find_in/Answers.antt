-- `audit::find_in` meets its contract: both counts start at 0.
-- Assumes nothing.
use Rattle.tallies.proofs.Tallies.{cleared}
use Rattle.audit.proofs.find_in.Goals as goal

pub tally_both-requires : goal.tally_both-requires
tally_both-requires g c =
    let clear = cleared _ c.requires.room.0 in
    record { cleared = (clear, clear); sized = c.requires.sized; marks_ready = c.requires.marks_ready }

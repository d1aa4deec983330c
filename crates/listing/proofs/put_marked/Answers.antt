-- `listing::put_marked` meets its contract: the compactor makes the marks.
-- Assumes nothing.
use Rattle.listing.proofs.Made.{marks_are}
use Rattle.listing.proofs.put_marked.Goals as goal

pub returns : goal.returns
returns c =
    rw (← marks_are c.requires.0 c.requires.1 c.compact.ensures) c.put_lines.ensures

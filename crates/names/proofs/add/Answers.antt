-- `names::add` meets its contract: definition n stands before those of its hash.
-- Assumes nothing.
use Rattle.names.proofs.Entry.{entered}
use Rattle.names.proofs.add.Goals as goal

pub returns : goal.returns
returns c =
    rw c.narrow.ensures (entered c.requires.0 c.requires.1 c.args.h c.requires.2.0 c.requires.2.1)

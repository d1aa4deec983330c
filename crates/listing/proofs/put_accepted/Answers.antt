-- `listing::put_accepted` meets its contract: as much of the table as the entries need is lent.
-- Assumes nothing.
use mathlib.Core.Path.{sym}
use Rattle.listing.proofs.Whole.{counted, lent_long, sizes, listed}
use Rattle.listing.proofs.put_accepted.Goals as goal

pub slice_bounds-put_made-end-2 : goal.slice_bounds-put_made-end-2
slice_bounds-put_made-end-2 c =
    sym (lent_long c.args.table.now c.entries-size.ensures c.requires.1)

pub put_made-requires : goal.put_made-requires
put_made-requires c =
    record { make_ready = sizes c.args.table.now c.requires.0 c.entries-size.ensures c.requires.1; put_made_ready = (counted c.requires.0, c.requires.2) }

pub returns : goal.returns
returns c =
    listed c.args.table.now c.requires.0 c.entries-size.ensures c.put_made.ensures

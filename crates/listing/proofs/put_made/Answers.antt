-- `listing::put_made` meets its contract: a refusal, or the lines.
-- Assumes nothing.
use Rattle.listing.proofs.Whole.{refused_lists, fine_lists}
use Rattle.listing.proofs.Made.{full}
use Rattle.listing.proofs.put_made.Goals as goal

pub put_table-requires : goal.put_table-requires
put_table-requires c =
    full c.make-v.ensures c.in-Ok.is c.requires.put_made_ready.0 c.requires.put_made_ready.1

pub returns-in-Err : goal.returns-in-Err
returns-in-Err c =
    refused_lists c.requires.put_made_ready.1 (rw c.in-Err.is at c.make-v.ensures) (rw c.number.ensures at c.put_refused.ensures)

pub returns-in-Ok : goal.returns-in-Ok
returns-in-Ok c =
    fine_lists c.requires.put_made_ready.1 (rw c.in-Ok.is at c.make-v.ensures) c.requires.put_made_ready.0 c.put_table.ensures

-- `listing::put_table` meets its contract: a mark for each pattern is lent.
-- Assumes nothing.
use lib.Seq.{length-take-le}
use mathlib.Core.Path.{sym}
use native.Mathlib.Omega.{arith}
use Rattle.listing.proofs.put_table.Goals as goal

pub slice_bounds-put_marked-end : goal.slice_bounds-put_marked-end
slice_bounds-put_marked-end c = sym (length-take-le _ _ (omega (arith, c.requires.sized.few_patterns)))

pub put_marked-requires : goal.put_marked-requires
put_marked-requires c = (c.requires, length-take-le _ _ (omega (arith, c.requires.sized.few_patterns)))

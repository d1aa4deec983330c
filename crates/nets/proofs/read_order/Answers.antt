-- `nets::read_order` meets its contract: refusal 1 where there are too many lines, else room for just the records is lent.
-- Assumes nothing.
use Rattle.nets.proofs.Order.{too_many, fits}
use Rattle.ground.proofs.Filled.{front_length}
use mathlib.Core.Path.{sym}
use native.Mathlib.Omega.{arith}
use Rattle.nets.proofs.read_order.Goals as goal

pub returns-then-n-gt-MOST_LINES : goal.returns-then-n-gt-MOST_LINES
returns-then-n-gt-MOST_LINES c = too_many _ c.if-n-gt-MOST_LINES.true

pub slice_bounds-read_order_in-end : goal.slice_bounds-read_order_in-end
slice_bounds-read_order_in-end c = sym (front_length 16384 0 _ (omega arith))

pub read_order_in-requires : goal.read_order_in-requires
read_order_in-requires c =
    fits c.requires (omega arith) (front_length 16384 0 _ (omega arith))

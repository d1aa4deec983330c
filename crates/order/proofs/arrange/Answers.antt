-- `order::arrange` meets its contract: so much memory as there are gates is lent, with no mark in it.
-- Assumes nothing.
use mathlib.Core.Path.{sym}
use native.Mathlib.Omega.{arith}
use lib.ListN.{length}
use Rattle.ground.proofs.Filled.{take-replicate, front_length}
use Rattle.order.proofs.arrange.Goals as goal

pub slice_bounds-arrange_in-end : goal.slice_bounds-arrange_in-end
slice_bounds-arrange_in-end c = sym (front_length 8192 65535 _ (omega arith))

pub slice_bounds-arrange_in-end-2 : goal.slice_bounds-arrange_in-end-2
slice_bounds-arrange_in-end-2 c = sym (front_length 8192 0 _ (omega arith))

pub arrange_in-requires : goal.arrange_in-requires
arrange_in-requires c =
    record {
      gates = c.requires;
      readers = front_length 8192 65535 (length c.args.a.now) (omega arith);
      unmarked = take-replicate 8192 (length c.args.a.now) 0 (omega arith);
    }

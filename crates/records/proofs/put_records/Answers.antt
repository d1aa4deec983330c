-- `records::put_records` meets its contract: as much memory as there are gates, and as there are lines, is lent, with no flag set.
-- Assumes nothing.
use mathlib.Core.Path.{sym}
use Prim.Native.Nat.{◌+◌}
use native.Mathlib.Omega.{arith}
use lib.ListN.{length}
use Rattle.ground.proofs.Filled.{take-replicate, filled_at, front_length}
use Rattle.records.proofs.put_records.Goals as goal

pub slice_bounds-put_records_in-end : goal.slice_bounds-put_records_in-end
slice_bounds-put_records_in-end c = sym (front_length 2048 0 _ (omega arith))

pub slice_bounds-put_records_in-end-2 : goal.slice_bounds-put_records_in-end-2
slice_bounds-put_records_in-end-2 c = sym (front_length 2048 0 _ (omega arith))

pub put_records_in-requires : goal.put_records_in-requires
put_records_in-requires c =
    record {
      fits = c.requires;
      lines = front_length 2048 0 (length c.args.net.now.firsts.now) (omega arith);
      flags = front_length 2048 0 (c.args.net.now.inputs + length c.args.net.now.firsts.now) (omega arith);
      unset = λ x.
          rw (take-replicate 2048 (c.args.net.now.inputs + length c.args.net.now.firsts.now) 0 (omega arith))
          (filled_at (c.args.net.now.inputs + length c.args.net.now.firsts.now) 0 x);
    }

pub returns : goal.returns
returns c = c.put_records_in.ensures

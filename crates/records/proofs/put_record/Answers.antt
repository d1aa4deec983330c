-- `records::put_record` meets its contract: its four pairs of bytes, one after the other.
-- Assumes nothing.
use native.Mathlib.Omega.{arith}
use Rattle.ground.proofs.Put.{put_then}
use Rattle.little.proofs.Little.{le-length}
use Rattle.records.specs.Owed.{record_of}
use Rattle.records.proofs.put_record.Goals as goal

pub put_two-three-requires : goal.put_two-three-requires
put_two-three-requires c =
    omega (arith, le-length 2 c.args.first)

pub put_two-requires : goal.put_two-requires
put_two-requires c =
    omega (arith, le-length 2 c.args.first, le-length 2 c.args.second)

pub returns : goal.returns
unfolding record_of
returns c =
    put_then c.put_pair-one.ensures (put_then c.put_two-two.ensures (put_then c.put_two-three.ensures c.put_two.ensures))

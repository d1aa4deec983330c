-- `head_marks::mark_source` meets its contract: the mark of the source, and no other, says that a bound line reads it.
-- Assumes nothing.
use Prim.Native.Nat.{◌<◌}
use native.Mathlib.Omega.{arith}
use lib.ListN.{length}
use Rattle.head_marks.proofs.Pins.{pin-marked}
use Rattle.head_marks.proofs.mark_source.Goals as goal

pub bounds-marks-i : goal.bounds-marks-i
bounds-marks-i c = omega (arith, c.source-i.ensures, c.requires.0.inside c.args.k c.args.s c.requires.1 c.requires.2 c.requires.3)

pub returns : goal.returns
returns c =
    let below : c.source-i.result < length c.args.marks.now =
    omega (arith, c.source-i.ensures, c.requires.0.inside c.args.k c.args.s c.requires.1 c.requires.2 c.requires.3) in
    pin-marked _ _ _ _ c.source-i.ensures below c.read_by_bound.ensures

-- `unfold::mark_data` meets its contract. The invariant: the data lines of the records passed are marked.
-- Assumes nothing.
use native.Mathlib.Omega.{arith}
use Rattle.unfold.proofs.Marking.{marked_none, marked_more, marked_all}
use Rattle.unfold.proofs.mark_data.Goals as goal

pub loop-r-init : goal.loop-r-init
loop-r-init c = marked_none c.requires

pub data_line-requires : goal.data_line-requires
data_line-requires c = record { inside = omega (arith, c.requires.whole) }

pub bounds-marks-data_line : goal.bounds-marks-data_line
bounds-marks-data_line c =
    rw (c.data_line.ensures, c.loop-r.invariant.long) (c.requires.inside c.loop-r.r (omega arith))

pub loop-r-preserved : goal.loop-r-preserved
loop-r-preserved c = rw c.data_line.ensures (marked_more c.loop-r.invariant c.loop-r-test.true)

pub returns : goal.returns
returns c = marked_all c.loop-r.invariant c.loop-r-test.false

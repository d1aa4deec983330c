-- `columns::put_column` meets its contract. The invariant: the rows passed have their entries, and the bits of the others are left.
-- Assumes nothing.
use native.Mathlib.Omega.{arith}
use Rattle.columns.proofs.Loop.{start, inside, more, finished}
use Rattle.columns.proofs.put_column.Goals as goal

pub loop-lane-init : goal.loop-lane-init
loop-lane-init c = start _ _ _ _ _ _

pub bounds-table-at : goal.bounds-table-at
bounds-table-at c = inside c.requires c.loop-lane.invariant (omega arith)

pub loop-lane-preserved : goal.loop-lane-preserved
loop-lane-preserved c = more c.requires c.loop-lane.invariant (omega arith)

pub returns : goal.returns
returns c = finished c.args.entries c.requires c.loop-lane.invariant (omega arith)

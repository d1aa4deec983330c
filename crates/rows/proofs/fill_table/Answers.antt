-- `rows::fill_table` meets its contract. The invariant: the rows passed are in the table.
-- Assumes nothing.
use native.Mathlib.Omega.{arith}
use Rattle.rows.proofs.Tables.{start, still, more, finished}
use Rattle.rows.proofs.fill_table.Goals as goal

pub loop-i-init : goal.loop-i-init
loop-i-init c = start _ _ c.requires

pub put_row-requires : goal.put_row-requires
put_row-requires c = (still c.loop-i.invariant c.requires, omega arith)

pub loop-i-preserved : goal.loop-i-preserved
loop-i-preserved c =
    let so = c.loop-i.invariant in
    more so (still so c.requires) (omega arith) c.put_row.ensures

pub returns : goal.returns
returns c = finished c.loop-i.invariant (omega arith) c.requires.patterns.some

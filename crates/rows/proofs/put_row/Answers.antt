-- `rows::put_row` meets its contract: the pattern and the row are parts of their lists.
-- Assumes nothing.
use native.Mathlib.Omega.{arith}
use Rattle.lists.proofs.Patterns.{pattern_fits}
use Rattle.simulate.specs.Simulate.{stuck_at}
use Rattle.rows.proofs.Part.{row_fits, row-ready, put}
use Rattle.rows.proofs.put_row.Goals as goal

pub overflow_mul-from : goal.overflow_mul-from
overflow_mul-from c =
    omega (arith, pattern_fits c.args.patterns.now c.requires.0.patterns c.requires.1)

pub overflow_add-next : goal.overflow_add-next
overflow_add-next c =
    omega (arith, pattern_fits c.args.patterns.now c.requires.0.patterns c.requires.1)

pub overflow_mul-at : goal.overflow_mul-at
overflow_mul-at c = omega (arith, row_fits c.requires.0 c.requires.1)

pub overflow_add-to : goal.overflow_add-to
overflow_add-to c = omega (arith, row_fits c.requires.0 c.requires.1)

pub fill_row-requires : goal.fill_row-requires
fill_row-requires c = row-ready c.args.circuit.now c.args.n c.args.inputs c.args.faults.now c.args.patterns.now c.args.table.now
    c.args.i c.requires.0 c.requires.1

pub returns : goal.returns
returns c = put c.args.circuit.now c.args.n c.args.inputs c.args.faults.now c.args.patterns.now c.args.table.now c.args.i stuck_at _ _
    c.fill_row.ensures

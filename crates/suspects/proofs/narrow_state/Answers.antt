-- `suspects::narrow_state` meets its contract: the row of the pattern, the marks laid over zeros, and their number.
-- Assumes nothing.
use mathlib.Core.Path.{◌∙◌}
use native.Mathlib.Omega.{arith}
use Rattle.tables.proofs.Rows.{row_fits}
use Rattle.suspects.proofs.State.{made}
use Rattle.suspects.proofs.Left.{row-length, left_marks, left-number}
use Rattle.suspects.proofs.narrow_state.Goals as goal

-- the row of the pattern stands in the table, and the table is small
pub overflow_mul-at : goal.overflow_mul-at
overflow_mul-at c = omega (arith, row_fits c.requires.1 c.requires.2)

pub overflow_add-to : goal.overflow_add-to
overflow_add-to c = omega (arith, row_fits c.requires.1 c.requires.2)

pub narrow-requires : goal.narrow-requires
narrow-requires c =
    let long = row-length c.args.table.now c.requires.1 c.requires.2 in
    (omega (arith, long, c.requires.0.few_faults), omega (arith, long, c.requires.0.few_faults))

pub returns : goal.returns
returns c =
    let a = c.args in
    let marks = c.narrow.ensures ∙ left_marks a.state a.table.now a.pattern a.failed c.requires.0 c.requires.1 c.requires.2 c.entry_against.ensures in
    made _ marks (left-number a.state a.table.now a.pattern a.failed marks c.count_marks.ensures)

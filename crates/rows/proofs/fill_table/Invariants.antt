-- `rows::fill_table` meets its contract. The invariant: the rows passed are in the table.
-- Assumes nothing.
use Rattle.simulate.specs.Simulate.{stuck_at}
use Rattle.rows.proofs.Tables.{SoFar}
use Rattle.rows.proofs.fill_table.Given as goal

abbrev pub invariant-loop-i : goal.invariant-loop-i
invariant-loop-i l = SoFar stuck_at l.circuit l.n l.inputs l.faults l.patterns l.table l.work l.i

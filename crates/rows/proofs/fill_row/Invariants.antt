-- `rows::fill_row` meets its contract. The invariant: the entries passed are in the row, and the good values stand.
-- Assumes nothing.
use lib.ListN.{length}
use Rattle.simulate.specs.Simulate.{stuck_at}
use Rattle.rows.proofs.Rows.{SoFar}
use Rattle.rows.proofs.fill_row.Given as goal

abbrev pub invariant-loop-j : goal.invariant-loop-j
invariant-loop-j l = SoFar stuck_at l.circuit l.n l.pattern l.faults (length l.initial.row) l.row l.work l.j

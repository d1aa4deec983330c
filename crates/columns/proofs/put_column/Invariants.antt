-- `columns::put_column` meets its contract. The invariant: the rows passed have their entries, and the bits of the others are left.
-- Assumes nothing.
use Rattle.columns.proofs.Loop.{SoFar}
use Rattle.columns.proofs.put_column.Given as goal

abbrev pub invariant-loop-lane : goal.invariant-loop-lane
invariant-loop-lane l = SoFar l.width l.count l.j l.initial.fails l.initial.unknowns l.initial.table l.table l.fails l.unknowns l.at l._lane

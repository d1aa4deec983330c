-- `entry::entry_by` meets its contract. The invariant: no line passed differs, and r is pass if all passed.
-- Assumes nothing.
use lib.ListN.{take, drop}
use Rattle.entry.proofs.Loop.{SoFar}
use Rattle.entry.specs.Owed.{output_test}
use Rattle.entry.proofs.entry_by.Given as goal

abbrev pub invariant-loop-k : goal.invariant-loop-k
invariant-loop-k l = SoFar (output_test l.masks) l.circuit (take l.n l.work) (drop l.n l.work) l.n l.k l.r

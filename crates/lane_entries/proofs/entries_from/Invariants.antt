-- `lane_entries::entries_from` meets its contract. The invariant: what the outputs below the line say.
-- Assumes nothing.
use Rattle.lane_entries.proofs.Loop.{SoFar}
use Rattle.lane_entries.proofs.entries_from.Given as goal

abbrev pub invariant-loop-k : goal.invariant-loop-k
invariant-loop-k l = SoFar l.circuit l.n l.work l.start l.so l.k

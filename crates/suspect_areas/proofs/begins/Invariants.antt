-- `suspect_areas::begins` meets its contract: the first byte that differs decides.
-- Assumes nothing.
use lib.ListN.{length}
use Rattle.ground.proofs.Below.{None}
use Rattle.suspect_areas.specs.Bytes.{differs}
use Rattle.suspect_areas.proofs.begins.Given as goal

abbrev pub invariant-loop-i : goal.invariant-loop-i
invariant-loop-i l = None (differs l.a l.b) (length l.b) l.i

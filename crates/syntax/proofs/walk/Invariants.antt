-- `syntax::walk` meets its contract: the rows are walked, byte by byte.
-- Assumes nothing.
use Rattle.syntax.proofs.Reader.{SoFar}
use Rattle.syntax.specs.Owed.{Row}
use Prim.Native.Nat.{◌/◌}
use Rattle.syntax.proofs.walk.Given as goal

abbrev pub invariant-loop-i : goal.invariant-loop-i
invariant-loop-i l = SoFar l.text l.i (l.q / 23) × Row l.q

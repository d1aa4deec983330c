-- `lane_lines::put_lanes` meets its contract: one word after the other.
-- Assumes nothing.
use lib.ListN.{length-set}
use native.Mathlib.Omega.{arith}
use Rattle.lane_lines.proofs.put_lanes.Goals as goal

pub bounds-words-k-2 : goal.bounds-words-k-2
bounds-words-k-2 c = simp length-set (omega arith)

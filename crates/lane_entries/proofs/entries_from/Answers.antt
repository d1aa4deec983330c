-- `lane_entries::entries_from` meets its contract. The invariant: what the outputs below the line say.
-- Assumes nothing.
use native.Mathlib.Omega.{arith}
use Rattle.lane_entries.proofs.Loop.{start, more, finished}
use Rattle.lane_entries.proofs.entries_from.Goals as goal

pub loop-k-init : goal.loop-k-init
loop-k-init c = start _ _ _ _ (omega arith)

pub loop-k-preserved : goal.loop-k-preserved
loop-k-preserved c = more c.loop-k.invariant (omega arith) c.next_line-so.ensures

pub returns : goal.returns
returns c = finished c.loop-k.invariant (omega arith)

-- `lane_lines::simulate_words` meets its contract. The invariant: in every lane the lines passed have had their turn.
-- Assumes nothing.
use native.Mathlib.Omega.{arith}
use Rattle.lane_lines.proofs.Turns.{start, still, more, finished}
use Rattle.lane_lines.proofs.simulate_words.Goals as goal

pub loop-k-init : goal.loop-k-init
loop-k-init c = start _ _ _ _ _ c.requires.1

pub line_lanes-lanes-requires : goal.line_lanes-lanes-requires
line_lanes-lanes-requires c = (still c.loop-k.invariant c.requires.0, omega (arith, c.requires.2))

pub put_lanes-requires : goal.put_lanes-requires
put_lanes-requires c =
    let so = c.loop-k.invariant in
    record { inside = omega (arith, so.long, c.requires.0.two, c.requires.2) }

pub loop-k-preserved : goal.loop-k-preserved
loop-k-preserved c =
    rw c.put_lanes.ensures (more c.loop-k.invariant c.requires.0 c.requires.2 (omega arith) c.line_lanes-lanes.ensures)

pub returns : goal.returns
returns c = finished c.loop-k.invariant (omega arith)

-- `lane_lines::fault_lines` meets its contract: the fault's line is set, and the lines after it are simulated as any.
-- Assumes nothing.
use native.Mathlib.Omega.{arith}
use Rattle.lane_lines.proofs.Faults.{fault_lines_made}
use Rattle.lane_lines.proofs.fault_lines.Goals as goal

pub simulate_words-requires : goal.simulate_words-requires
simulate_words-requires c =
    (rw c.put_lanes.auto.words c.requires.0, omega (arith, c.requires.1.line), c.requires.1.at_most)

pub returns : goal.returns
returns c =
    fault_lines_made c.args.fault c.requires.0 (omega (arith, c.requires.1.line, c.requires.1.at_most)) c.stuck_lanes-lanes.ensures
    (rw c.put_lanes.ensures at c.simulate_words.ensures)

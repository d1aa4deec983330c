-- `lane_entries::next_line` meets its contract: one answer for each branch.
-- Assumes nothing.
use native.Mathlib.Omega.{arith}
use Rattle.lane_entries.proofs.Loop.{no_output, output}
use Rattle.lane_entries.proofs.next_line.Goals as goal

pub returns-then-circuit-k-ne1 : goal.returns-then-circuit-k-ne1
returns-then-circuit-k-ne1 c =
    no_output c.args.circuit.now c.args.n c.args.work.now c.args.k c.if-circuit-k-ne1.true

pub returns : goal.returns
returns c =
    output c.args.circuit.now c.args.n c.args.work.now c.args.k (omega arith) c.if-circuit-k-ne1.false c.lanes_at.ensures c.lanes_at-2.ensures
    c.compare.ensures

-- `line_clauses::put_difference` meets its contract: nothing, or the XOR of good and faulty.
-- Assumes nothing.
use native.Mathlib.Omega.{arith}
use Rattle.line_clauses.proofs.Lines.{difference_none, difference_gate, gate_room, put_line}
use Rattle.ground.proofs.Put.{put_none}
use Rattle.line_clauses.proofs.put_difference.Goals as goal

pub returns-then-circuit-k-ne1 : goal.returns-then-circuit-k-ne1
returns-then-circuit-k-ne1 c = rw (difference_none _ _ _ c.if-circuit-k-ne1.true) (put_none _ _)

pub put_gate-requires : goal.put_gate-requires
put_gate-requires c =
    let room = c.requires.own.room in
    (omega arith, gate_room _ _ _ _ _ (difference_gate _ _ _ c.if-circuit-k-ne1.false c.requires.below) room (omega arith) (omega arith) (omega arith) (omega arith))

pub returns : goal.returns
returns c = put_line (difference_gate _ _ _ c.if-circuit-k-ne1.false c.requires.below) c.put_gate.ensures

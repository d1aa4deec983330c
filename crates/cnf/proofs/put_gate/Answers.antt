-- `cnf::put_gate` meets its contract: nothing for an input, else the shape of the kind with the literals of the gate.
-- Assumes nothing.
use native.Mathlib.Omega.{arith}
use Rattle.ground.proofs.Put.{put_none}
use Rattle.cnf.proofs.Shapes.{no-shape, shape_is, shape-length}
use Rattle.cnf.proofs.Signed.{literal_back}
use Rattle.cnf.proofs.put_gate.Goals as goal

pub returns-then-kind-eq0 : goal.returns-then-kind-eq0
returns-then-kind-eq0 c = rw (no-shape _ _ _ _ _ c.if-kind-eq0.true) (put_none _ _)

pub put_shape-requires : goal.put_shape-requires
put_shape-requires c =
    omega (arith, c.requires.1.room, shape-length _ c.args.y c.args.a c.args.b c.args.b c.requires.0 c.if-kind-eq0.false)

pub returns : goal.returns
returns c =
    let pre = c.requires.1 in
    rw (shape_is _ _ _ _ _ c.requires.0 c.if-kind-eq0.false _ _ c.negates_gate-own.ensures c.negates_pins-pins.ensures)
    (rw (
      literal_back _ _ pre.own c.literal-p.ensures,
      literal_back _ _ pre.own c.literal-not_p.ensures,
      literal_back _ _ pre.first c.literal-q.ensures,
      literal_back _ _ pre.first c.literal-not_q.ensures,
      literal_back _ _ pre.second c.literal-r.ensures,
      literal_back _ _ pre.second c.literal-not_r.ensures,
    ) at c.put_shape.ensures)

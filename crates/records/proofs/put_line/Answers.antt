-- `records::put_line` meets its contract: by whether an input stands on the line.
-- Assumes nothing.
use Prim.Native.Nat.{◌-◌}
use native.Mathlib.Omega.{arith}
use Rattle.records.proofs.put_line.Goals as goal

pub put_gate-requires : goal.put_gate-requires
put_gate-requires c =
    record {
      put_gate_room = rw c.from-g.ensures (c.requires.has.gates (c.args.k - c.args.lined.now.net.now.inputs) (omega arith));
      at_in_bounds = c.requires.room;
    }

-- `sides::look_at` meets its contract: the faulty values, and what both say without masks.
-- Assumes nothing.
use Rattle.simulate.specs.Simulate.{stuck_at}
use Rattle.entry.proofs.Halves.{of_halves}
use Rattle.sides.specs.Look.{settled, look_of, look_work}
use Rattle.sides.proofs.look_at.Goals as goal

pub returns : goal.returns
unfolding look_of look_work
returns c s small front =
    let all = c.faulty_values.ensures s small front in
    record { says = of_halves settled (stuck_at c.args.fault) c.args.circuit.now s c.args.n all c.entry_by.ensures; work = all }

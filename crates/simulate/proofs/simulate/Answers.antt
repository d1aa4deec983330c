-- `simulate::simulate` meets its contract: the inputs' lines are set, and then every line is simulated.
-- Assumes nothing.
use mathlib.Core.Path.{ap, ◌∙◌}
use native.Mathlib.Omega.{arith}
use Rattle.simulate.specs.Work.{good_of}
use Rattle.simulate.proofs.Keeps.{unforced_keeps}
use Rattle.simulate.proofs.Settled.{all-good}
use Rattle.simulate.proofs.simulate.Goals as goal

pub simulate_lines-requires : goal.simulate_lines-requires
simulate_lines-requires c =
    rw c.put_inputs.auto.values (c.requires.0.ordered, omega arith, omega arith)

pub returns : goal.returns
returns c =
    all-good _ c.args.pattern.now (record { keeps = unforced_keeps 3; pattern = c.requires.1 }) c.simulate_lines.auto.values
    c.put_inputs.ensures c.simulate_lines.ensures
    ∙ ap (good_of c.args.circuit.now c.args.pattern.now) c.put_inputs.auto.values

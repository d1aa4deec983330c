-- `simulate::simulate_fault` meets its contract: the fault's line is set, and the lines after it are simulated as any.
-- Assumes nothing.
use Prim.Native.Nat.{◌<◌}
use lib.ListN.{length, length-set}
use native.Mathlib.Omega.{arith}
use Rattle.simulate.specs.Simulate.{stuck_at}
use Rattle.simulate.proofs.Small.{agreed_small}
use Rattle.simulate.proofs.Below.{fault_simulated}
use Rattle.simulate.proofs.simulate_fault.Goals as goal

pub simulate_lines-requires : goal.simulate_lines-requires
simulate_lines-requires c =
    simp length-set (c.requires.0, omega (arith, c.requires.1.line), c.requires.1.at_most)

pub returns : goal.returns
returns c =
    let inside : c.args.fault.line < length c.args.values.now = omega (arith, c.requires.1.line, c.requires.1.at_most) in
    fault_simulated c.args.fault c.requires.0 inside
    (λ f p small shows so. c.stuck_value-v.ensures (agreed_small small _ (c.requires.0.lower _ inside) so (stuck_at c.args.fault) shows))
    c.simulate_lines.ensures

-- `simulate::faulty_values` meets its contract: the first half is copied, and the second lent.
-- Assumes nothing.
use mathlib.Core.Path.{◌∙◌}
use native.Mathlib.Omega.{arith}
use Rattle.simulate.specs.Simulate.{stuck_at}
use Rattle.simulate.proofs.Halves.{lent_long, copied_long, adds_forced, copied_half}
use Rattle.simulate.proofs.Keeps.{stuck_keeps}
use Rattle.simulate.proofs.Below.{makes_faulty}
use Rattle.simulate.proofs.faulty_values.Goals as goal

pub simulate_fault-requires : goal.simulate_fault-requires
simulate_fault-requires c = let w = c.copy_within.new.self in
    rw (lent_long c.args.n w (c.copy_within.ensures.len ∙ c.requires.two)) (c.requires.ordered, record { at_most = omega arith; line = c.requires.line })

pub returns : goal.returns
returns c = let w = c.copy_within.new.self in
    let copied = (c.copy_within.ensures.after ∙ copied_half _ _ c.requires.two) in
    let long = lent_long c.args.n w (copied_long c.args.n c.args.work.now w w c.requires.two copied) in
    adds_forced c.args.n c.args.work.now w c.simulate_fault.new.values c.requires.two copied
    (stuck_at c.args.fault) c.args.circuit.now (stuck_keeps 3 c.args.fault (omega (arith, c.requires.value)))
    (makes_faulty c.args.fault long c.requires.line c.simulate_fault.auto.values c.simulate_fault.ensures)

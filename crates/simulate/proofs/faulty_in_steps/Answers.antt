-- `simulate::faulty_in_steps` meets its contract: the first half is copied, and the second lent.
-- Assumes nothing.
use mathlib.Core.Path.{◌∙◌}
use native.Mathlib.Omega.{arith}
use Rattle.simulate.specs.Simulate.{stuck_at, stuck_in_steps}
use Rattle.simulate.proofs.Halves.{lent_long, adds_forced, copied_half}
use Rattle.simulate.proofs.Keeps.{stuck_keeps}
use Rattle.simulate.proofs.Steps.{steps_keep}
use Rattle.simulate.proofs.faulty_in_steps.Goals as goal

pub simulate_steps-requires : goal.simulate_steps-requires
simulate_steps-requires c = let w = c.copy_within.new.self in
    rw (lent_long c.args.n w (c.copy_within.ensures.len ∙ c.requires.0.two)) (c.requires.0.ordered, c.requires.1)

pub returns : goal.returns
returns c = let fault = c.args.fault in
    adds_forced c.args.n c.args.work.now c.copy_within.new.self
    c.simulate_steps.new.values c.requires.0.two (c.copy_within.ensures.after ∙ copied_half _ _ c.requires.0.two)
    (stuck_in_steps c.args.step fault) c.args.circuit.now (steps_keep 3 c.args.step (stuck_at fault) (stuck_keeps 3 fault (omega (arith, c.requires.0.value))))
    c.simulate_steps.ensures

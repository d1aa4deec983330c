-- `lane_lines::faulty_words` meets its contract: the first half is copied, and the second lent.
-- Assumes nothing.
use mathlib.Core.Path.{◌≡◌, refl, ◌∙◌}
use Prim.Native.Nat.{◌+◌, ◌*◌}
use native.Mathlib.Omega.{arith}
use lib.ListN.{length}
use Rattle.simulate.specs.Simulate.{stuck_in_steps}
use Rattle.simulate.proofs.Halves.{lent_long, copied_half}
use Rattle.lane_lines.proofs.Faults.{adds_forced_words}
use Rattle.lane_lines.proofs.faulty_words.Goals as goal

pub step_lines-requires : goal.step_lines-requires
step_lines-requires c =
    let long : length c.copy_within.new.self ≡ 2 * c.args.n + 2 * c.args.n = c.copy_within.ensures.len ∙ omega (arith, c.requires.four) in
    (rw (lent_long (2 * c.args.n) c.copy_within.new.self long) c.requires.lines, c.requires.steps, c.requires.value)

pub returns : goal.returns
returns c =
    adds_forced_words (stuck_in_steps c.args.step c.args.fault) c.args.circuit.now c.args.n (2 * c.args.n) c.args.work.now c.copy_within.new.self
    c.step_lines.new.words refl (omega (arith, c.requires.four)) (c.copy_within.ensures.after ∙ copied_half (2 * c.args.n) _ (omega (arith, c.requires.four))) c.step_lines.ensures

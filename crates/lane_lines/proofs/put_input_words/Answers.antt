-- `lane_lines::put_input_words` meets its contract. The invariant: the lines passed are set.
-- Assumes nothing.
use native.Mathlib.Omega.{arith}
use mathlib.Core.Path.{◌∙◌}
use Rattle.ground.proofs.Tests.{from_bool-one, from_bool_most}
use Rattle.circuit.specs.Record.{is_input}
use Rattle.simulate.proofs.Inputs.{input_below}
use Rattle.simulate.proofs.Settled.{shaped}
use Rattle.lane_lines.proofs.Inputs.{start, used_small, here_inside, more, finished}
use Rattle.lane_lines.proofs.put_input_words.Goals as goal

pub loop-k-init : goal.loop-k-init
loop-k-init c = start _ _ _ _ _ c.requires.2

pub input_or_x-requires : goal.input_or_x-requires
input_or_x-requires c =
    let so = c.loop-k.invariant in
    (record { inside = omega (arith, c.requires.0.size) }, c.requires.1, λ e. rw so.used (input_below (shaped c.requires.0) (omega arith) e))

pub put_lanes-requires : goal.put_lanes-requires
put_lanes-requires c = here_inside c.loop-k.invariant (omega arith)

pub overflow_mul-k : goal.overflow_mul-k
overflow_mul-k c = omega (arith, c.requires.0.size)

pub bounds-circuit-k : goal.bounds-circuit-k
bounds-circuit-k c = omega (arith, c.requires.0.size)

pub overflow_add-used : goal.overflow_add-used
overflow_add-used c = omega (arith, used_small c.loop-k.invariant, c.from-used.ensures, from_bool_most (is_input c.args.circuit.now c.loop-k.k))

pub loop-k-preserved : goal.loop-k-preserved
loop-k-preserved c =
    rw c.put_lanes.ensures (more c.loop-k.invariant (omega arith) c.input_or_x.ensures (c.from-used.ensures ∙ from_bool-one _))

pub returns : goal.returns
returns c = finished c.loop-k.invariant (omega arith)

-- `simulate::put_inputs` meets its contract. The invariant: the inputs' lines passed hold their values.
-- Assumes nothing.
use native.Mathlib.Omega.{arith}
use mathlib.Core.Path.{◌∙◌}
use Rattle.ground.proofs.Tests.{from_bool-one, from_bool_most}
use Rattle.circuit.specs.Record.{is_input}
use Rattle.simulate.proofs.Inputs.{start, input_below, used_small, more, finished}
use Rattle.simulate.proofs.put_inputs.Goals as goal

pub loop-k-init : goal.loop-k-init
loop-k-init c = start _ _ _

pub input_or-requires : goal.input_or-requires
input_or-requires c =
    let so = c.loop-k.invariant in
    (record { inside = omega arith }, λ e. rw so.used (input_below c.requires (omega (arith, so.long)) e))

pub bounds-values-k : goal.bounds-values-k
bounds-values-k c = omega (arith, c.loop-k.invariant.long)

pub overflow_add-used : goal.overflow_add-used
overflow_add-used c = omega (arith, used_small c.loop-k.invariant, c.from-used.ensures, from_bool_most (is_input c.args.circuit.now c.loop-k.k))

pub loop-k-preserved : goal.loop-k-preserved
loop-k-preserved c = more c.loop-k.invariant (omega arith) c.input_or.ensures (c.from-used.ensures ∙ from_bool-one _)

pub returns : goal.returns
returns c = finished c.loop-k.invariant (omega (arith, c.loop-k.invariant.long))

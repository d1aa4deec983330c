-- `setting::take_inputs` meets its contract: line by line, with the number of inputs so far.
-- Assumes nothing.
use native.Mathlib.Omega.{arith}
use mathlib.Core.Path.{◌∙◌}
use Rattle.ground.proofs.Tests.{from_bool-one, from_bool_most}
use Rattle.circuit.specs.Record.{is_input}
use Rattle.setting.proofs.Inputs.{no-input, used_small, input-ready, next-input, all-inputs}
use Rattle.setting.proofs.take_inputs.Goals as goal

pub loop-k-init : goal.loop-k-init
loop-k-init c = no-input _ _ _

pub put_input-requires : goal.put_input-requires
put_input-requires c = input-ready c.requires c.loop-k.invariant (omega arith)

pub overflow_add-used : goal.overflow_add-used
overflow_add-used c =
    omega (arith, used_small c.requires c.loop-k.invariant, c.from-used.ensures, from_bool_most (is_input c.args.circuit.now c.loop-k.k))

pub loop-k-preserved : goal.loop-k-preserved
loop-k-preserved c =
    next-input c.requires c.loop-k.invariant (omega arith) c.put_input.auto.test c.put_input.ensures (c.from-used.ensures ∙ from_bool-one _)

pub returns : goal.returns
returns c = all-inputs c.requires c.loop-k.invariant (omega arith)

-- `circuit::count_lines` meets its contract. The invariant: every line passed keeps its layout, and those that are inputs and outputs are counted.
-- Assumes nothing.
use mathlib.Core.Path.{◌∙◌}
use native.Mathlib.Omega.{arith}
use Rattle.ground.proofs.Tests.{from_bool-one, from_bool_most}
use Rattle.ground.proofs.First.{every_none, every_next, stopped, passed}
use Rattle.ground.proofs.Counting.{no_sum, sum_small, sum_more, sum_all}
use Rattle.circuit.specs.Record.{is_input}
use Rattle.circuit.proofs.Lines.{out_one}
use Rattle.circuit.proofs.BadByte.{broken_line, kept_line}
use Rattle.circuit.proofs.count_lines.Goals as goal

pub loop-k-init : goal.loop-k-init
loop-k-init c = (every_none _, no_sum _ _, no_sum _ _)

pub bad_byte-byte-requires : goal.bad_byte-byte-requires
bad_byte-byte-requires c = record { inside = omega arith }

pub returns-then-byte-lt8 : goal.returns-then-byte-lt8
returns-then-byte-lt8 c =
    let so = c.loop-k.invariant in
    record {
      lines = stopped (omega arith) so.0 (broken_line _ _ c.bad_byte-byte.ensures c.if-byte-lt8.true);
      at_most = so.1.at_most;
      inputs = so.1.sum;
      outputs = so.2.sum;
      byte = λ l. c.bad_byte-byte.ensures;
      inside = omega arith;
    }

pub overflow_add-inputs : goal.overflow_add-inputs
overflow_add-inputs c = omega (arith, sum_small c.loop-k.invariant.1, c.from-inputs.ensures, from_bool_most (is_input c.args.circuit.now c.loop-k.k))

pub overflow_add-outputs : goal.overflow_add-outputs
overflow_add-outputs c = omega (arith, sum_small c.loop-k.invariant.2)

pub loop-k-preserved : goal.loop-k-preserved
loop-k-preserved c =
    let so = c.loop-k.invariant in
    let kept = kept_line _ _ c.bad_byte-byte.ensures c.if-byte-lt8.false in (
      every_next so.0 kept,
      sum_more so.1 (omega arith) (c.from-inputs.ensures ∙ from_bool-one _),
      sum_more so.2 (omega arith) (c.from-outputs.ensures ∙ out_one _ _ kept),
    )

pub returns : goal.returns
returns c =
    let so = c.loop-k.invariant in
    record {
      lines = passed (omega arith) so.0;
      at_most = omega arith;
      inputs = sum_all so.1 (omega arith);
      outputs = sum_all so.2 (omega arith);
      byte = λ l. absurd (omega arith);
      inside = omega arith;
    }

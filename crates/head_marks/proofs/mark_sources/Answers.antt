-- `head_marks::mark_sources` meets its contract: one pin after the other.
-- Assumes nothing.
use native.Mathlib.Omega.{arith}
use Rattle.gates.proofs.Laws.{few_pins}
use Rattle.circuit.specs.Record.{kind_at}
use Rattle.head_marks.proofs.Pins.{no_source, next_source, all_sources}
use Rattle.head_marks.proofs.mark_sources.Goals as goal

pub loop-s-init : goal.loop-s-init
loop-s-init c = no_source _ _ _ _

pub mark_source-requires : goal.mark_source-requires
mark_source-requires c =
    let few = few_pins (kind_at c.args.circuit.now c.args.k) in
    rw c.loop-s.invariant.long (c.requires.0, c.requires.1, omega arith, omega (arith, c.pins-s-end.ensures))

pub loop-s-preserved : goal.loop-s-preserved
loop-s-preserved c =
    let call = c.mark_source in
    next_source c.loop-s.invariant (omega arith) call.auto.marks call.ensures

pub returns : goal.returns
returns c = all_sources c.loop-s.invariant (omega arith) c.pins-s-end.ensures

-- `reads::count_pins` meets its contract: one pin after the other.
-- Assumes nothing.
use native.Mathlib.Omega.{arith}
use Rattle.gates.proofs.Laws.{few_pins}
use Rattle.circuit.specs.Record.{kind_at}
use Rattle.reads.proofs.Counted.{no_pin, next-pin, all_pins}
use Rattle.reads.proofs.count_pins.Goals as goal

pub loop-s-init : goal.loop-s-init
loop-s-init c = no_pin _ _ _ _

pub count_pin-requires : goal.count_pin-requires
count_pin-requires c =
    let few = few_pins (kind_at c.args.circuit.now c.args.j) in
    rw c.loop-s.invariant.long (c.requires.0, c.requires.1, omega arith, omega (arith, c.pins-s-end.ensures))

pub loop-s-preserved : goal.loop-s-preserved
loop-s-preserved c =
    let call = c.count_pin in
    next-pin c.loop-s.invariant (omega arith) call.auto.reads call.ensures

pub returns : goal.returns
returns c = all_pins c.loop-s.invariant (omega arith) c.pins-s-end.ensures

-- `reads::count_reads` meets its contract: one line after the other, from nothing counted on.
-- Assumes nothing.
use native.Mathlib.Omega.{arith}
use Rattle.reads.proofs.Counted.{no_line, next-line, all_lines}
use Rattle.reads.proofs.count_reads.Goals as goal

pub loop-j-init : goal.loop-j-init
loop-j-init c = no_line _ _ c.requires.1

pub count_pins-requires : goal.count_pins-requires
count_pins-requires c =
    let so = c.loop-j.invariant in
    rw so.long (c.requires.0, omega (arith, so.long))

pub loop-j-preserved : goal.loop-j-preserved
loop-j-preserved c =
    let so = c.loop-j.invariant in
    let call = c.count_pins in
    next-line so (omega (arith, so.long)) call.auto.reads call.ensures

pub returns : goal.returns
returns c = all_lines c.loop-j.invariant (omega (arith, c.loop-j.invariant.long))

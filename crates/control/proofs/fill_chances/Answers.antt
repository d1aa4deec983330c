-- `control::fill_chances` meets its contract: the readings are counted, then the lines have their turns in order.
-- Assumes nothing.
use native.Mathlib.Omega.{arith}
use Rattle.control.proofs.Lines.{no_line, line-ready, next-line, all_lines, sourced}
use Rattle.control.proofs.fill_chances.Goals as goal

pub count_reads-requires : goal.count_reads-requires
count_reads-requires c =
    let p = c.requires in
    (rw p.reads_long (sourced p.known), p.none_read)

pub loop-k-init : goal.loop-k-init
loop-k-init c = no_line _ c.requires c.count_reads.ensures

pub line_chances-chances-requires : goal.line_chances-chances-requires
line_chances-chances-requires c = line-ready c.requires.known c.loop-k.invariant (omega arith)

pub bounds-zeros-k : goal.bounds-zeros-k
bounds-zeros-k c = let so = c.loop-k.invariant in omega (arith, so.ones_long, so.zeros_long)

pub offset_bounds-ones-k : goal.offset_bounds-ones-k
offset_bounds-ones-k c = omega arith

pub offset_bounds-zeros-k : goal.offset_bounds-zeros-k
offset_bounds-zeros-k c = let so = c.loop-k.invariant in omega (arith, so.ones_long, so.zeros_long)

pub loop-k-preserved : goal.loop-k-preserved
loop-k-preserved c = next-line c.requires.known c.loop-k.invariant (omega arith) c.line_chances-chances.ensures

pub returns : goal.returns
returns c = all_lines c.requires.known c.loop-k.invariant (omega arith)

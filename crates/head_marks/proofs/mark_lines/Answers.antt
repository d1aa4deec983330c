-- `head_marks::mark_lines` meets its contract: the readings are counted, then the lines have their turns in order.
-- Assumes nothing.
use native.Mathlib.Omega.{arith}
use Rattle.head_marks.proofs.Lines.{no-turn, turn-ready, next-turn, all-marked}
use Rattle.head_marks.proofs.mark_lines.Goals as goal

pub count_reads-requires : goal.count_reads-requires
count_reads-requires c =
    let p = c.requires in
    (rw p.long p.sourced, p.none_read)

pub loop-k-init : goal.loop-k-init
loop-k-init c = no-turn _ c.requires c.count_reads.ensures

pub mark_line-requires : goal.mark_line-requires
mark_line-requires c = turn-ready c.requires c.loop-k.invariant (omega arith)

pub loop-k-preserved : goal.loop-k-preserved
loop-k-preserved c =
    let call = c.mark_line in
    next-turn c.requires c.loop-k.invariant (omega arith) call.auto.marks call.ensures

pub returns : goal.returns
returns c = all-marked c.requires c.loop-k.invariant (omega arith)

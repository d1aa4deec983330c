-- `records::mark_outputs` meets its contract. The invariant: the first outputs are marked.
-- Assumes nothing.
use native.Mathlib.Omega.{arith}
use Rattle.records.proofs.Marking.{marked_none, marked_more, marked_all}
use Rattle.records.proofs.mark_outputs.Goals as goal

pub loop-x-init : goal.loop-x-init
loop-x-init c = marked_none c.requires

pub bounds-flag-from : goal.bounds-flag-from
bounds-flag-from c =
    let l = c.loop-x in
    rw (c.from.ensures, l.invariant.long) (c.requires.numbers l.x-index (omega arith))

pub loop-x-preserved : goal.loop-x-preserved
loop-x-preserved c = rw c.from.ensures (marked_more c.loop-x.invariant c.loop-x-test.true)

pub returns : goal.returns
returns c = marked_all c.loop-x.invariant (omega arith)

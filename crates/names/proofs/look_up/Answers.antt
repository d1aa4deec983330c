-- `names::look_up` meets its contract: each name is looked for, and its number written.
-- Assumes nothing.
use mathlib.Core.Path.{◌∙◌}
use Prim.Native.Nat.{◌<◌}
use lib.ListN.{length}
use native.Mathlib.Omega.{arith}
use Rattle.names.proofs.Loops.{look_none, look-more, look-all}
use Rattle.names.proofs.look_up.Goals as goal
use Rattle.names.proofs.look_up.Goals.{then-is_none, else-is_none}

pub loop-u-init : goal.loop-u-init
loop-u-init c =
    look_none c.args.numbers.now c.requires

pub find-found-requires : goal.find-found-requires
find-found-requires c =
    (c.requires.table, c.hash-h.ensures)

pub loop-u-preserved : goal.loop-u-preserved
loop-u-preserved c =
    let l : c.loop-u.u < length c.args.names.now = omega arith in
    elim c.if-is_none.branch [
      | then-is_none w ↦ look-more c.loop-u.invariant l c.from-at.ensures c.find-found.ensures c.number_of.ensures c.is_none.ensures w.if-is_none.true (w.lowest-is ∙ w.min-lowest.ensures)
      | else-is_none w ↦ look-more c.loop-u.invariant l c.from-at.ensures c.find-found.ensures c.number_of.ensures c.is_none.ensures w.if-is_none.false w.lowest-is
    ]

pub returns : goal.returns
returns c = look-all c.loop-u.invariant (omega arith)

-- `setting::put_heads` meets its contract: line by line, with the number of head lines so far.
-- Assumes nothing.
use native.Mathlib.Omega.{arith}
use mathlib.Core.Path.{◌∙◌}
use lib.Dec.{eqb}
use lib.ListN.{get_or}
use Rattle.ground.proofs.Tests.{from_bool-one, from_bool_most}
use Rattle.setting.proofs.Heads.{no-head, used_small, head-ready, next-head, all_heads}
use Rattle.setting.proofs.put_heads.Goals as goal

pub loop-k-init : goal.loop-k-init
loop-k-init c = no-head _ _ _

pub head_or-requires : goal.head_or-requires
head_or-requires c =
    let so = c.loop-k.invariant in
    head-ready c.requires.0 so c.requires.1 (omega (arith, so.long))

pub bounds-want-k : goal.bounds-want-k
bounds-want-k c = omega (arith, c.loop-k.invariant.long)

pub bounds-marks-k : goal.bounds-marks-k
bounds-marks-k c = omega (arith, c.requires.0.long, c.loop-k.invariant.long)

pub overflow_add-used : goal.overflow_add-used
overflow_add-used c = omega (arith, used_small c.requires.0 c.loop-k.invariant, c.from-used.ensures, from_bool_most (eqb (get_or c.args.marks.now c.loop-k.k 0) 1))

pub loop-k-preserved : goal.loop-k-preserved
loop-k-preserved c =
    let so = c.loop-k.invariant in
    next-head c.requires.0 so (omega (arith, so.long)) c.head_or.ensures (c.from-used.ensures ∙ from_bool-one _)

pub returns : goal.returns
returns c = let so = c.loop-k.invariant in all_heads c.requires.0 so (omega (arith, so.long))

-- `counts::see_pattern` meets its contract. The invariant: the first f faults are seen.
-- Assumes nothing.
use mathlib.Core.Path.{refl}
use borrow.Author.Rules.{rules}
use lib.ListN.{length-set}
use Rattle.counts.proofs.Detected.{saw_none, saw_one, saw_all}
use Rattle.counts.proofs.see_pattern.Goals as goal

pub loop-f-init : goal.loop-f-init
loop-f-init c = (refl, saw_none)

pub loop-f-preserved : goal.loop-f-preserved
loop-f-preserved c =
    let l = c.loop-f in
    (simp length-set l.invariant.0, saw_one l.invariant.1 c.from.ensures (search rules))

pub returns : goal.returns
returns c = saw_all c.loop-f.invariant.1 _ (search rules)

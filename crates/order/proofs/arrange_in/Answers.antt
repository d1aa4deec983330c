-- `order::arrange_in` meets its contract.
-- Assumes nothing.
use mathlib.Core.Path.{ap, ◌∙◌}
use native.Mathlib.Omega.{arith}
use lib.ListN.{length, length-replicate}
use Rattle.order.proofs.Arranged.{arranged}
use Rattle.order.proofs.arrange_in.Goals as goal

pub returns : goal.returns
returns c =
    let marks = ap length c.requires.unmarked ∙ length-replicate (length c.args.a.now) 0 in
    arranged c.place.ensures (omega (arith, marks)) (omega arith) c.rule_placed.ensures

-- `counts::count_row` meets its contract. The invariant: the first f cells of the row are counted.
-- Assumes nothing.
use mathlib.Core.Path.{◌≡◌, refl}
use native.Mathlib.Omega.{arith}
use borrow.Author.Rules.{rules}
use lib.ListN.{length-set}
use Rattle.counts.proofs.Moves.{row_none, row_next}
use Rattle.counts.proofs.count_row.Goals as goal

pub loop-f-init : goal.loop-f-init
loop-f-init c = (refl, row_none _ _ _ _ (λ k. search rules))

pub loop-f-preserved : goal.loop-f-preserved
loop-f-preserved c =
    let l = c.loop-f in
    (simp length-set l.invariant.0, row_next _ _ _ _ _ _ l.invariant.1 c.from-x.ensures (search rules) c.count_cell.ensures)

pub returns : goal.returns
returns c =
    let l = c.loop-f in
    let q : l.f ≡ c.args.faults = omega arith in
    rw (← q) l.invariant.1

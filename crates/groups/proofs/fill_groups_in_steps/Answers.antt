-- `groups::fill_groups_in_steps` meets its contract. The invariant: the rows of the groups passed are in the table.
-- Assumes nothing.
use native.Mathlib.Omega.{arith}
use mathlib.Core.Path.{refl}
use Rattle.groups.proofs.Groups.{start, still, more, finished}
use Rattle.groups.proofs.fill_groups_in_steps.Goals as goal

pub group_count-g-end-requires : goal.group_count-g-end-requires
group_count-g-end-requires c = c.requires.0.patterns.few

pub loop-g-init : goal.loop-g-init
loop-g-init c = (refl, c.group_count-g-end.ensures, start _ _ _ c.requires.0)

pub overflow_mul-from : goal.overflow_mul-from
overflow_mul-from c =
    let inv = c.loop-g.invariant in
    omega (arith, inv.1.begun c.loop-g.g (omega arith), c.requires.0.patterns.few)

pub group_rows-rows-requires : goal.group_rows-rows-requires
group_rows-rows-requires c =
    let inv = c.loop-g.invariant in
    rw inv.0 (inv.1.begun c.loop-g.g (omega arith))

pub put_group-requires : goal.put_group-requires
put_group-requires c =
    let inv = c.loop-g.invariant in
    (still inv.2 c.requires.0, c.requires.1, rw inv.0 at c.group_rows-rows.ensures)

pub loop-g-preserved : goal.loop-g-preserved
loop-g-preserved c =
    let inv = c.loop-g.invariant in
    (inv.0, inv.1, more inv.2 (still inv.2 c.requires.0) (omega arith) inv.1 (rw inv.0 at c.group_rows-rows.ensures) c.put_group.ensures)

pub returns : goal.returns
returns c =
    let inv = c.loop-g.invariant in
    finished inv.2 (omega arith) c.requires.0.patterns.some inv.1

-- `setting::set_below` meets its contract: one line after the other, the highest first.
-- Assumes nothing.
use native.Mathlib.Omega.{arith}
use Rattle.setting.proofs.Lines.{all_below_lem, next_below, none_below}
use Rattle.setting.proofs.set_below.Goals as goal

pub loop-k-init : goal.loop-k-init
loop-k-init c = all_below_lem _ _

pub set_line-requires : goal.set_line-requires
set_line-requires c =
    let so = c.loop-k.invariant in
    rw so.long (c.requires.0, c.requires.1, omega (arith, so.at_most))

pub loop-k-preserved : goal.loop-k-preserved
loop-k-preserved c =
    next_below c.loop-k.invariant (omega arith) c.set_line.auto.want c.set_line.ensures

pub returns : goal.returns
returns c = none_below c.loop-k.invariant (omega arith)

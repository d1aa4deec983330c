-- `setting::after_zero` meets its contract: one answer for each branch.
-- Assumes nothing.
use native.Mathlib.Omega.{arith}
use borrow.Author.Tests.{ne_eqb}
use Rattle.setting.specs.Owed.{after_zero}
use Rattle.setting.proofs.after_zero.Goals as goal

pub returns-in-1 : goal.returns-in-1
unfolding after_zero
returns-in-1 c = rw c.in-1.is

pub returns-in-2 : goal.returns-in-2
unfolding after_zero
returns-in-2 c = rw c.in-2.is

pub returns-in_default : goal.returns-in_default
unfolding after_zero
returns-in_default c = simp (ne_eqb c.args.s 1 (omega arith), ne_eqb c.args.s 2 (omega arith))

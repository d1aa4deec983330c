-- `setting::on_selected` meets its contract: one answer for each branch.
-- Assumes nothing.
use native.Mathlib.Omega.{arith}
use borrow.Author.Tests.{ne_eqb}
use Rattle.setting.specs.Owed.{selecting}
use Rattle.setting.proofs.on_selected.Goals as goal

pub returns-in-1 : goal.returns-in-1
unfolding selecting
returns-in-1 c = rw c.in-1.is

pub returns-in-3 : goal.returns-in-3
unfolding selecting
returns-in-3 c = rw c.in-3.is

pub returns-in_default : goal.returns-in_default
unfolding selecting
returns-in_default c = simp (ne_eqb c.args.s 1 (omega arith), ne_eqb c.args.s 3 (omega arith))

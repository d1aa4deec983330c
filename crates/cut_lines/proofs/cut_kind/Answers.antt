-- `cut_lines::cut_kind` meets its contract: one answer for each branch.
-- Assumes nothing.
use native.Mathlib.Omega.{arith}
use borrow.Author.Tests.{ne_eqb}
use Rattle.cut_lines.specs.Owed.{kind_by}
use Rattle.cut_lines.proofs.cut_kind.Goals as goal

pub returns-in-2 : goal.returns-in-2
unfolding kind_by
returns-in-2 c = rw c.in-2.is

pub returns-in-1 : goal.returns-in-1
unfolding kind_by
returns-in-1 c = rw c.in-1.is

pub returns-in_default : goal.returns-in_default
unfolding kind_by
returns-in_default c = simp (ne_eqb c.args.mark 2 (omega arith), ne_eqb c.args.mark 1 (omega arith))

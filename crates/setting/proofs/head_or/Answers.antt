-- `setting::head_or` meets its contract: one answer for each branch.
-- Assumes nothing.
use borrow.Author.Tests.{eq-eqb, ne_eqb}
use Rattle.setting.specs.Owed.{head_or}
use Rattle.setting.proofs.head_or.Goals as goal

pub bounds-node-used : goal.bounds-node-used
bounds-node-used c = c.requires.head c.if-marks-k-eq1.true

pub returns-then-marks-k-eq1 : goal.returns-then-marks-k-eq1
unfolding head_or
returns-then-marks-k-eq1 c = simp (eq-eqb _ _ c.if-marks-k-eq1.true)

pub returns-else-marks-k-eq1 : goal.returns-else-marks-k-eq1
unfolding head_or
returns-else-marks-k-eq1 c = simp (ne_eqb _ _ c.if-marks-k-eq1.false)

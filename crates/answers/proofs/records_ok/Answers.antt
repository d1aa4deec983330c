-- `answers::records_ok` meets its contract: one answer for each branch.
-- Assumes nothing.
use borrow.Author.Tests.{eq-eqb, ne_eqb}
use Rattle.answers.specs.Records.{records_ok}
use Rattle.ground.proofs.Tests.{some}
use Rattle.answers.proofs.records_ok.Goals as goal

pub returns-then-bytes-width-ne0 : goal.returns-then-bytes-width-ne0
unfolding records_ok
returns-then-bytes-width-ne0 c = simp (ne_eqb _ _ c.if-bytes-width-ne0.true)

pub returns-then-n-eq-EMPTY : goal.returns-then-n-eq-EMPTY
unfolding records_ok
returns-then-n-eq-EMPTY c = simp (eq-eqb _ _ c.if-bytes-width-ne0.false, c.if-n-eq-EMPTY.true)

pub returns : goal.returns
unfolding records_ok
returns c = simp (eq-eqb _ _ c.if-bytes-width-ne0.false, some _ c.if-n-eq-EMPTY.false)

-- `inspect::is_lost` meets its contract: by its tests.
-- Assumes nothing.
use borrow.Author.Tests.{eq-eqb, ne_eqb}
use Rattle.inspect.specs.Owed.{lost_in}
use Rattle.inspect.proofs.is_lost.Goals as goal

pub returns-then-dropped-f-eq1 : goal.returns-then-dropped-f-eq1
unfolding lost_in
returns-then-dropped-f-eq1 c = simp (eq-eqb _ _ c.if-dropped-f-eq1.true)

pub returns-else-dropped-f-eq1 : goal.returns-else-dropped-f-eq1
unfolding lost_in
returns-else-dropped-f-eq1 c = simp (ne_eqb _ _ c.if-dropped-f-eq1.false)

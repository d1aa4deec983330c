-- `setting::put_input` meets its contract: an input has its place, of a gate nothing is written.
-- Assumes nothing.
use borrow.Author.Tests.{eq-eqb, ne_eqb}
use Rattle.setting.specs.Owed.{input_put}
use Rattle.setting.proofs.put_input.Goals as goal

pub bounds-test-used : goal.bounds-test-used
bounds-test-used c = c.requires.input c.if-circuit-k-eq0.true

pub returns-then-circuit-k-eq0 : goal.returns-then-circuit-k-eq0
unfolding input_put
returns-then-circuit-k-eq0 c = simp (eq-eqb _ _ c.if-circuit-k-eq0.true)

pub returns-else-circuit-k-eq0 : goal.returns-else-circuit-k-eq0
unfolding input_put
returns-else-circuit-k-eq0 c = simp (ne_eqb _ _ c.if-circuit-k-eq0.false)

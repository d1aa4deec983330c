-- `states::is_free` meets its contract: one answer for each branch.
-- Assumes nothing.
use borrow.Author.Tests.{eq-eqb, ne_eqb}
use Rattle.states.specs.States.{is_state, is_free}
use Rattle.states.proofs.is_free.Goals as goal

pub returns-then-circuit-m-ne0 : goal.returns-then-circuit-m-ne0
unfolding is_free
returns-then-circuit-m-ne0 c = simp (ne_eqb _ _ c.if-circuit-m-ne0.true)

pub returns : goal.returns
unfolding is_free is_state
returns c = simp (eq-eqb _ _ c.if-circuit-m-ne0.false, c.state_record.ensures)

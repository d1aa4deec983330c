-- `states::check_states` meets its contract: one answer for each branch.
-- Assumes nothing.
use mathlib.Core.Path.{refl}
use borrow.Author.Tests.{eq-eqb, ne_eqb}
use Rattle.ground.proofs.First.{some_fails, none_fails}
use Rattle.answers.proofs.Places.{whole_broken, place_broken, none_broken}
use Rattle.states.specs.Rules.{state_rules}
use Rattle.states.proofs.check_states.Goals as goal

pub returns-then-states-ne0 : goal.returns-then-states-ne0
unfolding state_rules
returns-then-states-ne0 c = whole_broken _ refl (ne_eqb _ _ c.if-states-ne0.true)

pub returns-in-Some : goal.returns-in-Some
unfolding state_rules
returns-in-Some c =
    let bad = some_fails _ _ c.in-Some.ensures in place_broken _ refl (eq-eqb _ _ c.if-states-ne0.false) bad.0 bad.1

pub returns : goal.returns
unfolding state_rules
returns c = none_broken _ refl (eq-eqb _ _ c.if-states-ne0.false) refl (none_fails _ _ c.in_default.ensures)

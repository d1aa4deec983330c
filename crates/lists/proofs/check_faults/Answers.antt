-- `lists::check_faults` meets its contract: one answer for each branch.
-- Assumes nothing.
use mathlib.Core.Path.{refl, sym}
use Rattle.ground.proofs.First.{some_fails, none_fails}
use Rattle.answers.proofs.Places.{whole_broken, place_broken, none_broken}
use Rattle.lists.specs.Faults.{fault_rules}
use Rattle.lists.proofs.check_faults.Goals as goal

pub returns-then-not-records_ok : goal.returns-then-not-records_ok
unfolding fault_rules
returns-then-not-records_ok c = whole_broken _ refl (sym c.if-not-records_ok.ensures)

pub returns-in-Some : goal.returns-in-Some
unfolding fault_rules
returns-in-Some c =
    let bad = some_fails _ _ c.in-Some.ensures in
    place_broken _ refl (sym c.if-not-records_ok.ensures) bad.0 bad.1

pub returns : goal.returns
unfolding fault_rules
returns c = none_broken _ refl (sym c.if-not-records_ok.ensures) refl (none_fails _ _ c.in_default.ensures)

-- `gates::pins` meets its contract: one answer for each branch.
-- Assumes nothing.
use borrow.Author.Tests.{eq-eqb, ne_eqb, le-leb, lt-leb}
use Rattle.gates.specs.Gate.{pins_of}
use Rattle.gates.proofs.pins.Goals as goal

pub returns-then-kind-eq0 : goal.returns-then-kind-eq0
unfolding pins_of
returns-then-kind-eq0 c = simp (eq-eqb _ _ c.if-kind-eq0.true)

pub returns-then-kind-le-LAST_OF_ONE_PIN : goal.returns-then-kind-le-LAST_OF_ONE_PIN
unfolding pins_of
returns-then-kind-le-LAST_OF_ONE_PIN c = simp (ne_eqb _ _ c.if-kind-eq0.false, le-leb _ _ c.if-kind-le-LAST_OF_ONE_PIN.true)

pub returns-then-kind-ne-SELECTOR : goal.returns-then-kind-ne-SELECTOR
unfolding pins_of
returns-then-kind-ne-SELECTOR c = simp (ne_eqb _ _ c.if-kind-eq0.false, lt-leb _ _ c.if-kind-le-LAST_OF_ONE_PIN.false, ne_eqb _ _ c.if-kind-ne-SELECTOR.true)

pub returns : goal.returns
unfolding pins_of
returns c = simp (ne_eqb _ _ c.if-kind-eq0.false, lt-leb _ _ c.if-kind-le-LAST_OF_ONE_PIN.false, eq-eqb _ _ c.if-kind-ne-SELECTOR.false)

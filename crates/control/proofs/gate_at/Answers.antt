-- `control::gate_at` meets its contract.
-- Assumes nothing.
use Prim.Native.Nat.{ℕ}
use lib.ListN.{length}
use Rattle.chances.specs.Exponents.{Exponents, gate_exponents}
use Rattle.chances.proofs.ByKind.{of_kind}
use Rattle.exponents.specs.Lines.{pin_exponents}
use Rattle.control.proofs.gate_at.Goals as goal

-- the places, the last first: the rule, the third pin, the test of the kind, the second pin, the first
pub returns-then-kind-eq-SELECTOR : goal.returns-then-kind-eq-SELECTOR
unfolding gate_exponents
returns-then-kind-eq-SELECTOR c =
    let a = c.args in
    let e : ℕ → Exponents = pin_exponents a.circuit.now (length a.ones.now) a.k in
    of_kind 9 e c.if-kind-eq-SELECTOR.true (c.select.ensures (e 1) (e 2) (e 3) c.pin_chances-first.ensures c.pin_chances-second.ensures c.pin_chances-third.ensures)

pub returns : goal.returns
returns c =
    c.gate_chances.ensures c.if-kind-eq-SELECTOR.false _ c.pin_chances-first.ensures c.pin_chances-second.ensures

-- `chances::gate_chances` meets its contract, kind by kind.
-- Assumes nothing.
use Rattle.chances.specs.Exponents.{gate_exponents}
use Rattle.chances.proofs.ByKind.{of_kind, no_rule}
use Rattle.chances.proofs.gate_chances.Goals as goal

pub returns-in-1 : goal.returns-in-1
unfolding gate_exponents
returns-in-1 c = λ _ e p q. of_kind 1 e c.in-1.is p.are

pub returns-in-2 : goal.returns-in-2
unfolding gate_exponents
returns-in-2 c = λ _ e p q. of_kind 2 e c.in-2.is (c.exchanged.ensures _ p.are)

pub returns-in-3 : goal.returns-in-3
unfolding gate_exponents
returns-in-3 c = λ _ e p q. of_kind 3 e c.in-3.is (c.and.ensures _ _ p q)

pub returns-in-4 : goal.returns-in-4
unfolding gate_exponents
returns-in-4 c = λ _ e p q. of_kind 4 e c.in-4.is (c.exchanged-in-4.ensures _ (c.and-in-4.ensures _ _ p q))

pub returns-in-5 : goal.returns-in-5
unfolding gate_exponents
returns-in-5 c = λ _ e p q. of_kind 5 e c.in-5.is (c.or.ensures _ _ p q)

pub returns-in-6 : goal.returns-in-6
unfolding gate_exponents
returns-in-6 c = λ _ e p q. of_kind 6 e c.in-6.is (c.exchanged-in-6.ensures _ (c.or-in-6.ensures _ _ p q))

pub returns-in-7 : goal.returns-in-7
unfolding gate_exponents
returns-in-7 c = λ _ e p q. of_kind 7 e c.in-7.is (c.xor.ensures _ _ p q)

pub returns-in-8 : goal.returns-in-8
unfolding gate_exponents
returns-in-8 c = λ _ e p q. of_kind 8 e c.in-8.is (c.exchanged-in-8.ensures _ (c.xor-in-8.ensures _ _ p q))

pub returns-in_default : goal.returns-in_default
returns-in_default c =
    let r = c.in_default.in_default-own.rest in
    λ plain e p q.
    rw (no_rule _ e r.0.0.0.0.0.0.0.1 r.0.0.0.0.0.0.1 r.0.0.0.0.0.1 r.0.0.0.0.1 r.0.0.0.1 r.0.0.1 r.0.1 r.1 plain)
    c.certain.ensures

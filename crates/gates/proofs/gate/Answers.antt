-- `gates::gate` meets its contract: two X's give X, a kind's digit is the value of its table, and a selector goes by the rule in words.
-- Assumes nothing.
use mathlib.Core.Path.{◌≡◌, sym}
use mathlib.Core.Logic.{⊎_elim}
use Prim.Native.Nat.{ℕ, suc, ◌+◌, ◌<◌}
use native.Mathlib.Omega.{arith}
use Rattle.ground.proofs.Tests.{either}
use Rattle.gates.specs.Gate.{X, last_kind, gate_of, at_pins}
use Rattle.gates.specs.Owed.{SourcesSmall}
use Rattle.gates.proofs.Table.{other}
use Rattle.gates.proofs.Laws.{gate-unknown}
use Rattle.gates.proofs.Words.{by_select}
use Rattle.gates.proofs.Digits.{by_digit}
use Rattle.gates.proofs.gate.Goals as goal

-- of 0, 1 and X only two X's have the sum 4
two-x : (k a b c : ℕ) → SourcesSmall k a b → a + b ≡ 4 → X ≡ gate_of k (at_pins a b c)
two-x k a b c small e = ⊎_elim known (λ l. sym (other k (at_pins a b c) l)) (either k (suc last_kind))
  where
    known : k < suc last_kind → X ≡ gate_of k (at_pins a b c)
    known l =
        let sees = small (omega arith) in
        let first : a ≡ X = omega (arith, sees.0, sees.1) in
        let second : b ≡ X = omega (arith, sees.0, sees.1) in
        rw (first, second) (sym (gate-unknown k c))

pub returns-then-first-second-eq-TWO_X : goal.returns-then-first-second-eq-TWO_X
returns-then-first-second-eq-TWO_X c small =
    two-x _ _ _ _ small (omega (arith, c.from-first.ensures, c.from-second.ensures, c.if-first-second-eq-TWO_X.true))

pub returns-then-kind-lt-SELECTOR : goal.returns-then-kind-lt-SELECTOR
returns-then-kind-lt-SELECTOR c small =
    by_digit _ c.if-kind-lt-SELECTOR.true (small (omega (arith, c.if-kind-lt-SELECTOR.true))) c.from-first.ensures c.from-second.ensures c.block.ensures c.digit.ensures

pub returns-then-kind-gt-SELECTOR : goal.returns-then-kind-gt-SELECTOR
returns-then-kind-gt-SELECTOR c _ = sym (other _ _ c.if-kind-gt-SELECTOR.true)

pub returns : goal.returns
returns c small =
    by_select _ _ _ (omega (arith, c.if-kind-lt-SELECTOR.false, c.if-kind-gt-SELECTOR.false)) (c.selected.ensures (small (omega (arith, c.if-kind-gt-SELECTOR.false))))

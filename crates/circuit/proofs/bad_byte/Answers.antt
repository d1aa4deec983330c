-- `circuit::bad_byte` meets its contract: one answer for each field, and one where all keep their rules.
-- Assumes nothing.
use borrow.Author.Tests.{le-leb, lt-leb}
use mathlib.Core.Path.{◌≡◌, sym, ◌∙◌}
use mathlib.Core.Bool.{true}
use mathlib.Core.List.{List}
use Prim.Native.Nat.{ℕ}
use lib.Dec.{leb}
use Rattle.ground.specs.Choose.{choose}
use Rattle.ground.specs.Below.{first_not}
use Rattle.gates.specs.Gate.{last_kind}
use Rattle.circuit.specs.Record.{kind_at, out_at}
use Rattle.circuit.specs.Layout.{pin_ok, field_ok}
use Rattle.circuit.specs.BadByte.{bad_field}
use Rattle.circuit.proofs.bad_byte.Goals as goal

pub returns-then-circuit-k-gt-LAST_KIND : goal.returns-then-circuit-k-gt-LAST_KIND
unfolding first_not field_ok
returns-then-circuit-k-gt-LAST_KIND c = simp (lt-leb _ _ c.if-circuit-k-gt-LAST_KIND.true)

pub returns-then-circuit-k-gt1 : goal.returns-then-circuit-k-gt1
unfolding first_not field_ok
returns-then-circuit-k-gt1 c = simp (le-leb _ _ c.if-circuit-k-gt-LAST_KIND.false, lt-leb _ _ c.if-circuit-k-gt1.true)

pub returns-then-not-pin_ok : goal.returns-then-not-pin_ok
unfolding first_not field_ok
returns-then-not-pin_ok c =
    simp (le-leb _ _ c.if-circuit-k-gt-LAST_KIND.false, le-leb _ _ c.if-circuit-k-gt1.false, sym c.pin_ok.ensures ∙ c.if-not-pin_ok.true)

pub returns-then-not-pin_ok-2 : goal.returns-then-not-pin_ok-2
unfolding first_not field_ok
returns-then-not-pin_ok-2 c =
    simp (
      le-leb _ _ c.if-circuit-k-gt-LAST_KIND.false,
      le-leb _ _ c.if-circuit-k-gt1.false,
      sym c.pin_ok.ensures ∙ c.if-not-pin_ok.false,
      sym c.pin_ok-2.ensures ∙ c.if-not-pin_ok-2.true,
    )

-- behind four tests the last pin decides
last-decides : (c : List ℕ) (k : ℕ) → leb (kind_at c k) last_kind ≡ true → leb (out_at c k) 1 ≡ true → pin_ok c k 1 ≡ true
    → pin_ok c k 2 ≡ true → bad_field c k ≡ choose (pin_ok c k 3) 5 4
unfolding first_not field_ok
last-decides c k kind out first second = simp (kind, out, first, second)

pub returns-then-not-pin_ok-3 : goal.returns-then-not-pin_ok-3
returns-then-not-pin_ok-3 c =
    rw (
      last-decides _ _ (le-leb _ _ c.if-circuit-k-gt-LAST_KIND.false) (le-leb _ _ c.if-circuit-k-gt1.false)
          (sym c.pin_ok.ensures ∙ c.if-not-pin_ok.false) (sym c.pin_ok-2.ensures ∙ c.if-not-pin_ok-2.false),
      sym c.pin_ok-3.ensures ∙ c.if-not-pin_ok-3.true,
    )

pub returns : goal.returns
returns c =
    rw (
      last-decides _ _ (le-leb _ _ c.if-circuit-k-gt-LAST_KIND.false) (le-leb _ _ c.if-circuit-k-gt1.false)
          (sym c.pin_ok.ensures ∙ c.if-not-pin_ok.false) (sym c.pin_ok-2.ensures ∙ c.if-not-pin_ok-2.false),
      sym c.pin_ok-3.ensures ∙ c.if-not-pin_ok-3.false,
    )

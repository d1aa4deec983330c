-- `gates::selected` meets its contract: one answer for each branch.
-- Assumes nothing.
use mathlib.Core.Path.{◌≡◌, refl, ◌∙◌}
use mathlib.Core.Bool.{Bool, true, false, ◌&&◌, and-false}
use Prim.Native.Nat.{ℕ, ◌≤◌}
use borrow.Author.Tests.{eq-eqb, ne_eqb}
use Rattle.ground.specs.Choose.{choose}
use Rattle.gates.specs.Gate.{known, X, three_of}
use Rattle.gates.specs.Words.{select_of}
use Rattle.gates.proofs.Values.{three_own}
use Rattle.gates.proofs.selected.Goals as goal

-- two that are the same are that value if it is known, else X
same-own : (a : ℕ) → a ≤ 2 → a ≡ choose (known a && (known a && true)) a X
unfolding three_of
same-own a h = three_own a h ∙ go (known a)
  where
    go : (t : Bool) → choose t a X ≡ choose (t && (t && true)) a X
    go true = refl
    go false = refl

pub returns-then-select-eq0 : goal.returns-then-select-eq0
unfolding select_of
returns-then-select-eq0 c small = simp (eq-eqb _ _ c.if-select-eq0.true) (three_own _ small.0)

pub returns-then-select-eq1 : goal.returns-then-select-eq1
unfolding select_of
returns-then-select-eq1 c small = simp (ne_eqb _ _ c.if-select-eq0.false, eq-eqb _ _ c.if-select-eq1.true) (three_own _ small.1)

pub returns-then-first-second : goal.returns-then-first-second
unfolding select_of
returns-then-first-second c _ = simp (ne_eqb _ _ c.if-select-eq0.false, ne_eqb _ _ c.if-select-eq1.false, ne_eqb _ _ c.if-first-second.true, and-false)

pub returns : goal.returns
unfolding select_of
returns c small =
    simp (ne_eqb _ _ c.if-select-eq0.false, ne_eqb _ _ c.if-select-eq1.false, eq-eqb _ _ c.if-first-second.false)
    (rw (← c.if-first-second.false) (same-own _ small.0))

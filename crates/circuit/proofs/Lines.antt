-- The test of a record holds exactly where the record keeps its layout.
-- Assumes nothing.
use mathlib.Core.Path.{◌≡◌}
use mathlib.Core.Logic.{⊎_elim}
use mathlib.Core.Bool.{true}
use mathlib.Core.List.{List}
use Prim.Native.Nat.{ℕ, zero, suc, ◌≤◌, ◌<◌}
use native.Mathlib.Omega.{arith}
use lib.Dec.{eqb, ltb}
use borrow.Author.Tests.{eqb-true, ltb-true, lt-leb, eq-eqb, le-leb, lt-ltb}
use Rattle.ground.specs.Choose.{one}
use Rattle.ground.proofs.Tests.{either, same_test, bit_one}
use Rattle.answers.specs.Rules.{Same}
use Rattle.answers.proofs.Same.{le_same}
use Rattle.gates.specs.Gate.{last_kind, pins_of}
use Rattle.circuit.specs.Record.{kind_at, out_at, pin_at, is_output}
use Rattle.circuit.specs.Layout.{pin_ok, field_ok, line_ok, Pin, Field, Layout}
use Rattle.circuit.specs.Owed.{limit_of}
use Rattle.circuit.proofs.All.{all_same}

-- pins 1, 2 and 3
pub three : (P : ℕ → Type 0) → P 1 → P 2 → P 3 → (s : ℕ) → 1 ≤ s → s ≤ 3 → P s
three P a b c zero l h = absurd (omega arith)
three P a b c (suc zero) l h = a
three P a b c (suc (suc zero)) l h = b
three P a b c (suc (suc (suc zero))) l h = c
three P a b c (suc (suc (suc (suc s)))) l h = absurd (omega arith)

-- only 0 is below 1
below_one : (n : ℕ) → ltb n 1 ≡ eqb n 0
below_one n = same_test (ltb n 1) (eqb n 0) (λ e. eq-eqb n 0 (omega (arith, ltb-true n 1 e))) (λ e. lt-ltb n 1 (omega (arith, eqb-true n 0 e)))

module _ (c : List ℕ) (k : ℕ) where
  pin : (s : ℕ) → pin_ok c k s ≡ true → Pin c k s
  unfolding pin_ok
  pin s e = record { has = λ h. ltb-true _ _ (rw (le-leb s _ h) at e); lacks = λ h. eqb-true _ _ (rw (lt-leb s _ h) at e) }

  pin_ok_lem : (s : ℕ) → Pin c k s → pin_ok c k s ≡ true
  unfolding pin_ok
  pin_ok_lem s p =
      ⊎_elim (λ h. rw (lt-leb s _ h) (eq-eqb _ _ (p.lacks h))) (λ h. rw (le-leb s _ h) (lt-ltb _ _ (p.has h))) (either (pins_of (kind_at c k)) s)

  pub field_same : (f : ℕ) → Same (field_ok c k f) (Field c k f)
  unfolding field_ok
  field_same zero = le_same (kind_at c k) last_kind
  field_same (suc zero) = le_same (out_at c k) 1
  field_same (suc (suc s)) = record { holds = pin (suc s); tests = pin_ok_lem (suc s) }

  -- a record keeps its layout exactly if each field keeps its rule
  abbrev Fields : Type 0
  Fields = (f : ℕ) → f < 5 → Field c k f

  fields : Layout c k → Fields
  fields l zero h = l.kind
  fields l (suc zero) h = l.output
  fields l (suc (suc s)) h = l.pin (suc s) (omega arith) (omega arith)

  pub layout : Fields → Layout c k
  layout h = record {
    kind = h 0 (omega arith);
    output = h 1 (omega arith);
    pin = three (Pin c k) (h 2 (omega arith)) (h 3 (omega arith)) (h 4 (omega arith));
  }

  pub layout_same : Same (line_ok c k) (Layout c k)
  unfolding line_ok
  layout_same =
      let same = all_same 5 (field_ok c k) (λ f _. field_same f) in
      record { holds = λ e. layout (same.holds e); tests = λ l. same.tests (fields l) }

  -- the output byte of a line that keeps its layout counts it as an output
  pub out_one : line_ok c k ≡ true → out_at c k ≡ one (is_output c k)
  out_one e = bit_one (out_at c k) (layout_same.holds e).output

  -- one comparison serves both
  pub limit_ok : (s : ℕ) → ltb (pin_at c k s) (limit_of c k s) ≡ pin_ok c k s
  unfolding pin_ok limit_of
  limit_ok s = ⊎_elim (λ h. rw (lt-leb s _ h) (below_one (pin_at c k s))) (λ h. rw (le-leb s _ h)) (either (pins_of (kind_at c k)) s)

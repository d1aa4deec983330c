-- No simulation uses the values that the table of the gates has for an input.
-- Assumes nothing.
use mathlib.Core.Path.{◌≡◌, refl, ap}
use mathlib.Core.Bool.{Bool, true, false}
use mathlib.Core.List.{List}
use Prim.Native.Nat.{ℕ}
use native.Mathlib.Omega.{arith}
use lib.Dec.{eqb}
use borrow.Author.Tests.{eqb-false}
use Rattle.ground.specs.Choose.{choose}
use Rattle.ground.proofs.Grow.{grow-same}
use Rattle.gates.specs.Gate.{selector, value_by, gate_of}
use Rattle.circuit.specs.Record.{kind_at, is_input}
use Rattle.simulate.specs.Simulate.{Forcing, gate_value, line_value, values_to}
use Rattle.simulate.specs.Unused.{values_by, SameButForInputs}

module _ (values : List ℕ) (same : SameButForInputs values) where
  -- for a gate the other table has the same
  on_gates : (kind : ℕ) (v : ℕ → ℕ) → (kind ≡ 0 → ⊥) → value_by values kind v ≡ gate_of kind v
  unfolding gate_of
  on_gates kind v ne = ap (choose (eqb kind selector) _) (same _ (omega arith))

  -- whatever the table has for an input, every line has the same value, in the good circuit and in a faulty one
  pub unused : (f : Forcing) (c p : List ℕ) (n : ℕ) → values_by values f c p n ≡ values_to f c p n
  unfolding gate_value line_value
  unused f c p n = grow-same _ (line_value f c p) n (λ k _. ap (f k 0) (go k _ _ (is_input c k) refl))
    where
      go : (k a : ℕ) (v : ℕ → ℕ) (t : Bool) → is_input c k ≡ t → choose t a (value_by values (kind_at c k) v) ≡ choose t a (gate_of (kind_at c k) v)
      go k a v true e = refl
      go k a v false e = on_gates (kind_at c k) v (eqb-false _ _ e)

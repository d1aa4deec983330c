-- Without X in the pattern, and where what forces a value forces a known one, every line's value is known.
-- Assumes nothing.
use mathlib.Core.Path.{◌≡◌, refl}
use mathlib.Core.Bool.{Bool, true, false}
use mathlib.Core.List.{List}
use Prim.Native.Nat.{ℕ, ◌<◌}
use native.Mathlib.Omega.{arith}
use lib.ListN.{length, get_or}
use borrow.Author.Tests.{eqb-true, eqb-false}
use Rattle.ground.specs.Choose.{choose}
use Rattle.ground.proofs.Grow.{grow_each}
use Rattle.gates.proofs.Laws.{gate-known}
use Rattle.circuit.specs.Record.{kind_at, pin_at, is_input, inputs_before}
use Rattle.circuit.specs.Formed.{WellFormed}
use Rattle.simulate.specs.Simulate.{Forcing, gate_value, line_value, values_to}
use Rattle.simulate.specs.Vectors.{NoX}
use Rattle.simulate.specs.Owed.{Keeps}
use Rattle.simulate.proofs.Inputs.{input_below}
use Rattle.simulate.proofs.Settled.{shaped}

module _ (f : Forcing) (keeps : Keeps 2 f) (c p : List ℕ) (n : ℕ) (well : WellFormed c (length p) n) (full : NoX p) where
  gate_value_known : (vs : List ℕ) (k : ℕ) → k < n → (kind_at c k ≡ 0 → ⊥) → ((j : ℕ) → get_or vs j 0 < 2) → gate_value f c vs k < 2
  unfolding gate_value
  gate_value_known vs k l ne below = gate-known (kind_at c k) _ (omega arith) (well.kinds k l) (λ s a b. keeps k s _ (below (pin_at c k s)))

  line_known : (vs : List ℕ) (k : ℕ) → k < n → ((j : ℕ) → get_or vs j 0 < 2) → line_value f c p vs k < 2
  unfolding line_value
  line_known vs k l below = keeps k 0 _ (go (is_input c k) refl)
    where
      go : (t : Bool) → is_input c k ≡ t → choose t (get_or p (inputs_before c k) 0) (gate_value f c vs k) < 2
      go true e = full (inputs_before c k) (input_below (shaped well) l (eqb-true (kind_at c k) 0 e))
      go false e = gate_value_known vs k l (eqb-false (kind_at c k) 0 e) below

  pub values_known : (k : ℕ) → get_or (values_to f c p n) k 0 < 2
  values_known = grow_each (λ v. v < 2) 0 (omega arith) (line_value f c p) n (λ k. line_known (values_to f c p k) k)

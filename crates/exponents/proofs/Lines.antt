-- The exponents of a line are told by those of the lines below it, and are at most 500.
-- Assumes nothing.
use mathlib.Core.Path.{◌≡◌, refl, sym, ap, ◌∙◌}
use mathlib.Core.Bool.{Bool}
use mathlib.Core.List.{List}
use Prim.Native.Nat.{ℕ, suc, ◌+◌, ◌≤◌, ◌<◌, min}
use native.Mathlib.Decide.{ℕ_discrete}
use native.Mathlib.Nat.{min-le_left}
use native.Mathlib.Omega.{arith}
use lib.ListN.{get_or}
use Rattle.ground.specs.Lists.{grow}
use Rattle.ground.proofs.Grow.{grow_at, grow_meet}
use Rattle.ground.proofs.Tests.{one_most}
use Rattle.circuit.specs.Record.{kind_at, pin_at}
use Rattle.circuit.specs.Formed.{WellFormed}
use Rattle.reads.specs.Reads.{branches}
use Rattle.halves.specs.Half.{floor_exponent}
use Rattle.chances.specs.Exponents.{Exponents, sure, gate_exponents}
use Rattle.exponents.specs.Lines.{seen, exponents_in, exponents, pin_exponents}

-- a gate looks at its three pins alone, and an input at none
gate_same : (kind : ℕ) (e f : ℕ → Exponents) → ((s : ℕ) → 1 ≤ s → s ≤ 3 → e s ≡ f s) → gate_exponents kind e ≡ gate_exponents kind f
unfolding gate_exponents
gate_same kind e f same = rw (same 1 (omega arith) (omega arith), same 2 (omega arith) (omega arith), same 3 (omega arith) (omega arith))

pub input-sure : (e : ℕ → Exponents) → gate_exponents 0 e ≡ sure
unfolding gate_exponents
input-sure e = refl

module _ {c : List ℕ} {m n : ℕ} (well : WellFormed c m n) where
  pub line_law : (k : ℕ) → k < n → (v : Bool) → exponents c n k v ≡ min floor_exponent (gate_exponents (kind_at c k) (pin_exponents c n k) v)
  unfolding exponents exponents_in
  line_law k l v = ap (λ (e : Exponents). e v) (grow_at (exponents_in c n) sure n k l) ∙ ap (λ (e : Exponents). min floor_exponent (e v)) (go (ℕ_discrete (kind_at c k) 0))
    where
      below : (j : ℕ) → Exponents
      below j = get_or (grow (exponents_in c n) k) j sure

      go : Dec (kind_at c k ≡ 0) → gate_exponents (kind_at c k) (λ s. seen c n (pin_at c k s) (below (pin_at c k s))) ≡ gate_exponents (kind_at c k) (pin_exponents c n k)
      go (yes z) = rw z (input-sure _ ∙ sym (input-sure _))
      go (no gate) =
          gate_same (kind_at c k) _ _
          (λ s a b. ap (seen c n (pin_at c k s)) (grow_meet (exponents_in c n) sure k n (pin_at c k s) (well.lower k l gate s a b) (omega (arith, well.lower k l gate s a b))))

  pub few : (k : ℕ) → k < n → (v : Bool) → exponents c n k v ≤ floor_exponent
  few k l v = rw (line_law k l v) (min-le_left floor_exponent _)

-- and a pin sees at most one more
pub seen_few : (c : List ℕ) (n j : ℕ) (e : Exponents) (v : Bool) → e v ≤ floor_exponent → seen c n j e v ≤ floor_exponent + 1
seen_few c n j e v h = omega (arith, one_most (branches c n j))

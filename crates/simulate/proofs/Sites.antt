-- A line fault is seen by every reader of the line and at the output, a pin fault by its gate alone.
-- Assumes nothing.
use mathlib.Core.Path.{◌≡◌, refl, sym, ap, ◌∙◌}
use mathlib.Core.List.{List}
use Prim.Native.Nat.{ℕ, ◌≤◌, ◌<◌}
use native.Mathlib.Omega.{arith}
use lib.ListN.{get_or}
use borrow.Author.Tests.{ne_eqb}
use Rattle.ground.proofs.Grow.{grow_at, grow_meet}
use Rattle.gates.specs.Gate.{pins_of}
use Rattle.gates.proofs.Laws.{gate_same, few_pins}
use Rattle.circuit.specs.Record.{kind_at, pin_at}
use Rattle.lists.specs.declared.Fault.{Fault}
use Rattle.simulate.specs.Simulate.{unforced, stuck_at, gate_value, line_value}
use Rattle.simulate.specs.Sites.{faulty_at, Gives, OnLine, OnPin}
use Rattle.circuit.specs.Formed.{Lower}
use Rattle.simulate.proofs.Below.{stuck_site, stuck_off, values_below}

module _ (fault : Fault) (c p : List ℕ) (n : ℕ) (lower : (k : ℕ) → k < n → (kind_at c k ≡ 0 → ⊥) → Lower c k) (inside : fault.line < n) where
  -- the source of a pin that the gate has
  source_below : (k : ℕ) → k < n → (kind_at c k ≡ 0 → ⊥) → (s : ℕ) → 1 ≤ s → s ≤ pins_of (kind_at c k) → pin_at c k s < k
  source_below k l ne s a b = lower k l ne s a (omega (arith, few_pins (kind_at c k)))

  -- a gate whose own line is not stuck
  gives : (k : ℕ) → k < n → ((v : ℕ) → stuck_at fault k 0 v ≡ v) → Gives fault c p n k
  unfolding line_value gate_value
  gives k l free ne =
      grow_at (line_value (stuck_at fault) c p) 0 n k l
      ∙ free _
      ∙ rw (ne_eqb (kind_at c k) 0 ne)
      (gate_same (kind_at c k) _ _
      (λ s a b.
      let below = source_below k l ne s a b in
      ap (stuck_at fault k s) (grow_meet (line_value (stuck_at fault) c p) 0 k n (pin_at c k s) below (omega arith))))

  pub on_line_lem : fault.site ≡ 0 → OnLine fault c p n
  unfolding line_value
  on_line_lem e = record {
    itself = itself;
    read = λ k s a q. stuck_off fault k s _ (λ _ h. omega arith) ∙ rw q itself;
    others = λ k l ne. gives k l (λ v. stuck_off fault k 0 v (λ h _. ne h));
  }
    where
      itself : faulty_at fault c p n fault.line ≡ fault.value
      itself = grow_at (line_value (stuck_at fault) c p) 0 n fault.line inside ∙ stuck_site fault 0 _ (sym e)

  pub on-pin : 1 ≤ fault.site → OnPin fault c p n
  on-pin h = record {
    seen = stuck_site fault fault.site _ refl;
    alone = λ k s. stuck_off fault k s _;
    gates = λ k l. gives k l (λ v. stuck_off fault k 0 v (λ _ e. omega arith));
    below = λ k l.
        grow_meet (line_value (stuck_at fault) c p) 0 n fault.line k (omega arith) l
        ∙ ap (λ (vs : List ℕ). get_or vs k 0) (values_below fault c p fault.line (omega arith))
        ∙ grow_meet (line_value unforced c p) 0 fault.line n k l (omega arith);
  }

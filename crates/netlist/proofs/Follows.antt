-- Values of a circuit's lines by any gate rule: an input's line has its input, a gate's what the rule gives of its sources.
-- They are what a list holds that is built line by line.
-- Assumes nothing.
use mathlib.Core.Path.{◌≡◌, ◌∙◌}
use mathlib.Core.Bool.{true, false}
use mathlib.Core.List.{List}
use Prim.Native.Nat.{ℕ, ◌≤◌, ◌<◌}
use native.Mathlib.Omega.{arith}
use lib.ListN.{get_or}
use borrow.Author.Tests.{eqb-false}
use Rattle.ground.specs.Choose.{choose}
use Rattle.ground.specs.Lists.{grow}
use Rattle.ground.proofs.Grow.{grow_at, grow_meet}
use Rattle.gates.specs.Gate.{last_kind}
use Rattle.gates.proofs.Laws.{AtPins, few_pins}
use Rattle.circuit.specs.Record.{kind_at, pin_at, is_input, inputs_before}
use Rattle.circuit.specs.Layout.{Layout}

-- a gate sees its own pins alone
abbrev pub Own : {A : Type 0} → (ℕ → (ℕ → A) → A) → Type 0
Own {A} gate = (kind : ℕ) (v w : ℕ → A) → 1 ≤ kind → kind ≤ last_kind → AtPins kind (λ s. v s ≡ w s) → gate kind v ≡ gate kind w

pub record FollowsGates {A : Type 0} (gate : ℕ → (ℕ → A) → A) (c : List ℕ) (n : ℕ) (inputs value : ℕ → A) : Type 0 where
  pub at_input : (k : ℕ) → k < n → is_input c k ≡ true → value k ≡ inputs (inputs_before c k)
  pub at_gate : (k : ℕ) → k < n → is_input c k ≡ false → value k ≡ gate (kind_at c k) (λ s. value (pin_at c k s))

-- ---- a list built line by line

-- the value of line k, where vs has those of the lines below it
abbrev pub line_after : {A : Type 0} → (ℕ → (ℕ → A) → A) → List ℕ → (ℕ → A) → A → List A → ℕ → A
line_after gate c inputs d vs k = choose (is_input c k) (inputs (inputs_before c k)) (gate (kind_at c k) (λ s. get_or vs (pin_at c k s) d))

module _ {A : Type 0} (gate : ℕ → (ℕ → A) → A) (c : List ℕ) (inputs : ℕ → A) (d : A) where
  -- the sources of a line are lower, so that they stand there when it is added
  pub follows : Own gate → (n : ℕ) → ((k : ℕ) → k < n → Layout c k) → FollowsGates gate c n inputs (λ k. get_or (grow (line_after gate c inputs d) n) k d)
  follows own n layout = record {
    at_input = λ k l e. grow_at (line_after gate c inputs d) d n k l ∙ rw e;
    at_gate = λ k l e.
        let some : 1 ≤ kind_at c k = omega (arith, eqb-false (kind_at c k) 0 e) in
        grow_at (line_after gate c inputs d) d n k l ∙ rw e
        (own (kind_at c k) _ _ some (layout k l).kind
        (λ s a b.
        let lower = ((layout k l).pin s a (omega (arith, few_pins (kind_at c k)))).has b in
        grow_meet (line_after gate c inputs d) d k n (pin_at c k s) lower (omega arith)));
  }

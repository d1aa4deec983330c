-- The truths of a circuit's lines are the one column of values in which every line follows from its sources.
-- Assumes nothing.
use mathlib.Core.Path.{◌≡◌, refl, sym, ap, ◌∙◌}
use mathlib.Core.Bool.{Bool, true, false}
use mathlib.Core.List.{List}
use Prim.Native.Nat.{ℕ, ◌≤◌, ◌<◌}
use native.Mathlib.Omega.{arith}
use borrow.Author.Tests.{eqb-false}
use Rattle.ground.specs.Choose.{choose}
use Rattle.ground.proofs.Below.{each_below}
use Rattle.ground.proofs.Grow.{grow_at, grow_meet}
use Rattle.gates.specs.Boolean.{bool_gate}
use Rattle.gates.proofs.Laws.{few_pins, bool_same}
use Rattle.circuit.specs.Record.{kind_at, pin_at, is_input, inputs_before}
use Rattle.circuit.specs.Formed.{WellFormed}
use Rattle.simulate.specs.Boolean.{Vector, Truths, gate_truth, line_truth, truths_to, truth_at}

-- what line k shows, where g has the values of the lines
unfoldable pub follows : Truths → List ℕ → Vector → (ℕ → Bool) → ℕ → Bool
follows F c x g k = F k 0 (choose (is_input c k) (x (inputs_before c k)) (bool_gate (kind_at c k) (λ s. F k s (g (pin_at c k s)))))

pub record Column (F : Truths) (c : List ℕ) (x : Vector) (n : ℕ) (g : ℕ → Bool) : Type 0 where
  pub line : (k : ℕ) → k < n → g k ≡ follows F c x g k

-- a gate of a well formed circuit, by what its pins see
module _ {c : List ℕ} {m n : ℕ} (w : WellFormed c m n) {k : ℕ} (l : k < n) (gate : is_input c k ≡ false) where
  not-input : kind_at c k ≡ 0 → ⊥
  not-input = eqb-false (kind_at c k) 0 gate

  pub gate_pins : (u v : ℕ → Bool) → ((s : ℕ) → 1 ≤ s → pin_at c k s < k → u s ≡ v s) → bool_gate (kind_at c k) u ≡ bool_gate (kind_at c k) v
  gate_pins u v same =
      let some : 1 ≤ kind_at c k = omega (arith, not-input) in
      bool_same (kind_at c k) u v some (w.kinds k l) (λ s a b. same s a (w.lower k l not-input s a (omega (arith, few_pins (kind_at c k)))))

-- ---- two columns are equal

module _ {c : List ℕ} {m n : ℕ} (w : WellFormed c m n) (F : Truths) (x : Vector) where
  follows_same : (g h : ℕ → Bool) (k : ℕ) → k < n → ((j : ℕ) → j < k → g j ≡ h j) → follows F c x g k ≡ follows F c x h k
  unfolding follows
  follows_same g h k l below = go (is_input c k) refl
    where
      go : (t : Bool) → is_input c k ≡ t
          → F k 0 (choose t (x (inputs_before c k)) (bool_gate (kind_at c k) (λ s. F k s (g (pin_at c k s)))))
          ≡ F k 0 (choose t (x (inputs_before c k)) (bool_gate (kind_at c k) (λ s. F k s (h (pin_at c k s)))))
      go true e = refl
      go false e = ap (F k 0) (gate_pins w l e _ _ (λ s a b. ap (F k s) (below (pin_at c k s) b)))

  pub one_column : {g h : ℕ → Bool} → Column F c x n g → Column F c x n h → (k : ℕ) → k < n → g k ≡ h k
  one_column {g} {h} p q = each_below (λ k. g k ≡ h k) n (λ k l below. p.line k l ∙ follows_same g h k l below ∙ sym (q.line k l))

  pub same_column : {g h : ℕ → Bool} → ((k : ℕ) → k < n → g k ≡ h k) → Column F c x n h → Column F c x n g
  same_column {g} {h} same q = record {
    line = λ k l. same k l ∙ q.line k l ∙ sym (follows_same g h k l (λ j b. same j (omega arith)));
  }

-- ---- the truths are one

module _ (F : Truths) (c : List ℕ) (x : Vector) where
  pub truths_column : {m n : ℕ} → WellFormed c m n → Column F c x n (truth_at F c x n)
  unfolding follows line_truth gate_truth
  truths_column {m} {n} w = record { line = λ k l. grow_at (line_truth F c x) false n k l ∙ go k l (is_input c k) refl }
    where
      go : (k : ℕ) → k < n → (t : Bool) → is_input c k ≡ t
          → F k 0 (choose t (x (inputs_before c k)) (gate_truth F c (truths_to F c x k) k))
          ≡ F k 0 (choose t (x (inputs_before c k)) (bool_gate (kind_at c k) (λ s. F k s (truth_at F c x n (pin_at c k s)))))
      go k l true e = refl
      go k l false e = ap (F k 0) (gate_pins w l e _ _ (λ s a b. ap (F k s) (grow_meet (line_truth F c x) false k n (pin_at c k s) b (omega arith))))

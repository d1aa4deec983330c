-- Values of a circuit's lines by any gate rule and under any forcing, each line after those below it: what stands on an input's line, and on a gate's.
-- Assumes nothing.
use mathlib.Core.Path.{◌≡◌, ◌∙◌}
use mathlib.Core.Bool.{true, false}
use mathlib.Core.List.{List}
use Prim.Native.Nat.{ℕ, ◌≤◌, ◌<◌}
use native.Mathlib.Omega.{arith}
use lib.ListN.{get_or}
use borrow.Author.Tests.{eqb-false}
use Rattle.ground.specs.Choose.{choose}
use Rattle.ground.specs.Lists.{grow}
use Rattle.ground.proofs.Grow.{grow_at, grow_meet}
use Rattle.gates.specs.Gate.{last_kind}
use Rattle.gates.proofs.Laws.{AtPins}
use Rattle.circuit.specs.Record.{kind_at, pin_at, is_input}

-- a gate sees its own pins alone, and a buffer gives what it sees, if that is a value
pub record GateRule {A : Type 0} (gate : ℕ → (ℕ → A) → A) (Value : A → Type 0) : Type 0 where
  pub own : (kind : ℕ) (v w : ℕ → A) → 1 ≤ kind → kind ≤ last_kind → AtPins kind (λ s. v s ≡ w s) → gate kind v ≡ gate kind w
  pub buffers : (v : ℕ → A) → Value (v 1) → gate 1 v ≡ v 1

-- line, site and the value there, to the value that is seen there
abbrev pub ForcingOf : Type 0 → Type 0
ForcingOf A = ℕ → ℕ → A → A

-- nothing is forced at the pins of an input, which it lacks
abbrev pub LeavesInputs : {A : Type 0} → List ℕ → ForcingOf A → Type 0
LeavesInputs {A} c f = (m s : ℕ) (v : A) → kind_at c m ≡ 0 → 1 ≤ s → f m s v ≡ v

-- the value of line m, where vs has those of the lines below it, and x m is put on it if it is an input
abbrev pub line_by : {A : Type 0} → (ℕ → (ℕ → A) → A) → A → ForcingOf A → List ℕ → (ℕ → A) → List A → ℕ → A
line_by gate d f c x vs m = f m 0 (choose (is_input c m) (x m) (gate (kind_at c m) (λ s. f m s (get_or vs (pin_at c m s) d))))

module _ {A : Type 0} (gate : ℕ → (ℕ → A) → A) (d : A) (f : ForcingOf A) (c : List ℕ) (x : ℕ → A) (n m : ℕ) (l : m < n) where
  abbrev all : List A
  all = grow (line_by gate d f c x) n

  pub at_input : is_input c m ≡ true → get_or all m d ≡ f m 0 (x m)
  at_input e = grow_at (line_by gate d f c x) d n m l ∙ rw e

  pub at_gate : {Value : A → Type 0} → GateRule gate Value → is_input c m ≡ false → kind_at c m ≤ last_kind → AtPins (kind_at c m) (λ s. pin_at c m s < m)
      → get_or all m d ≡ f m 0 (gate (kind_at c m) (λ s. f m s (get_or all (pin_at c m s) d)))
  at_gate rule e small lower =
      let same = rule.own (kind_at c m)
      (λ s. f m s (get_or (grow (line_by gate d f c x) m) (pin_at c m s) d)) (λ s. f m s (get_or all (pin_at c m s) d))
      (omega (arith, eqb-false (kind_at c m) 0 e)) small
      (λ s a b. rw (grow_meet (line_by gate d f c x) d m n (pin_at c m s) (lower s a b) (omega (arith, lower s a b)))) in
      grow_at (line_by gate d f c x) d n m l ∙ rw (e, same)

-- The inputs so set, simulated, give each head line with a known value that value.
-- Assumes nothing.
use mathlib.Core.Path.{◌≡◌, refl, ◌∙◌}
use mathlib.Core.Bool.{Bool, true, false}
use mathlib.Core.List.{List}
use Prim.Native.Nat.{ℕ, ◌≤◌, ◌<◌}
use native.Mathlib.Omega.{arith}
use lib.ListN.{length, get_or}
use borrow.Author.Tests.{eqb-false}
use Rattle.ground.specs.Choose.{choose}
use Rattle.ground.proofs.Below.{each_below}
use Rattle.ground.proofs.Grow.{grow_at, grow_meet}
use Rattle.ground.proofs.Lists.{collect-length}
use Rattle.ground.proofs.Collect.{collect_get}
use Rattle.gates.specs.Gate.{pins_of, gate_of, Refines}
use Rattle.gates.proofs.Laws.{gate_mono}
use Rattle.circuit.specs.Record.{kind_at, pin_at, is_input, inputs_before}
use Rattle.circuit.specs.Formed.{WellFormed}
use Rattle.simulate.specs.Simulate.{unforced, gate_value, line_value, values_to}
use Rattle.simulate.specs.Work.{good_of}
use Rattle.heads.specs.Heads.{bound, head, heads_before}
use Rattle.heads.proofs.Pins.{pin_lower}
use Rattle.heads.proofs.Forest.{head-free, free_sources}
use Rattle.trees.specs.Need.{need_of}
use Rattle.trees.specs.Setting.{set_lines, set_trees, Set}
use Rattle.trees.proofs.Needs.{need_says}
use Rattle.trees.proofs.Lines.{set_lines_lem}

-- the pattern p gives each input what w has at its line
abbrev Taken : List ℕ → ℕ → List ℕ → List ℕ → Type 0
Taken c n w p = (k : ℕ) → k < n → is_input c k ≡ true → get_or p (inputs_before c k) 0 ≡ get_or w k 0

module _ {c : List ℕ} {m n : ℕ} (well : WellFormed c m n) {s w : List ℕ} (p : List ℕ) (set : Set c n s w) (taken : Taken c n w p) where
  -- a free line has what it is to have, where that is known
  abbrev Has : ℕ → Type 0
  Has k = bound c n k ≡ false → Refines (get_or w k 0) (get_or (good_of c p n) k 0)

  one_line : (k : ℕ) → k < n → ((j : ℕ) → j < k → Has j) → Has k
  unfolding line_value gate_value
  one_line k inside below free known = grow_at (line_value unforced c p) 0 n k inside ∙ go (is_input c k) refl
    where
      seen : (q : ℕ) → 1 ≤ q → q ≤ pins_of (kind_at c k) → Refines (need_of (kind_at c k) (get_or w k 0) q) (get_or (values_to unforced c p k) (pin_at c k q) 0)
      seen q x y h =
          let low : pin_at c k q < k = pin_lower well k q inside x y in
          let is : get_or w (pin_at c k q) 0 ≡ need_of (kind_at c k) (get_or w k 0) q = set.sources k q inside free x y in
          grow_meet (line_value unforced c p) 0 k n (pin_at c k q) low (omega arith)
          ∙ below (pin_at c k q) low (free_sources well k q inside x y free).1 (rw is h)
          ∙ is

      go : (t : Bool) → is_input c k ≡ t → choose t (get_or p (inputs_before c k) 0) (gate_of (kind_at c k) (λ q. get_or (values_to unforced c p k) (pin_at c k q) 0)) ≡ get_or w k 0
      go true e = taken k inside e
      go false e =
          let some : kind_at c k ≡ 0 → ⊥ = eqb-false (kind_at c k) 0 e in
          let gives = (need_says (kind_at c k) (get_or w k 0) (omega arith) (well.kinds k inside) known).gives in
          gate_mono (kind_at c k) (need_of (kind_at c k) (get_or w k 0)) (λ q. get_or (values_to unforced c p k) (pin_at c k q) 0) seen (rw gives known)
          ∙ gives

  pub heads_have : (k : ℕ) → k < n → head c n k ≡ true → Refines (get_or s (heads_before c n k) 0) (get_or (good_of c p n) k 0)
  heads_have k l e known =
      each_below Has n one_line k l (head-free well k e) (rw (set.heads k l e) known)
      ∙ set.heads k l e

-- the trees are set: whatever the node s says of the head lines, the test made of it, simulated, gives each head line of which s knows the value that value
pub trees_set : {c : List ℕ} {m n : ℕ}
    → WellFormed c m n
    → (s : List ℕ) (k : ℕ)
    → k < n
    → head c n k ≡ true
    → Refines (get_or s (heads_before c n k) 0) (get_or (good_of c (set_trees c n s) n) k 0)
unfolding set_trees
trees_set {c} {m} {n} well s =
    heads_have well (set_trees c n s) (set_lines_lem well s) (λ k l e. collect_get (is_input c) (λ k. get_or (set_lines c n s) k 0) n k l e)

-- it has a value for each input
pub trees_length : (c : List ℕ) (n : ℕ) (s : List ℕ) → length (set_trees c n s) ≡ inputs_before c n
unfolding set_trees
trees_length c n s = collect-length (is_input c) (λ k. get_or (set_lines c n s) k 0) n

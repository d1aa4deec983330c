-- A vector does at the bound lines and head lines of a circuit what its values at the head lines do in the cut circuit; at other free lines a fault that is served shows nothing.
-- Assumes nothing.
use mathlib.Core.Path.{◌≡◌, refl, sym, ap, ◌∙◌}
use mathlib.Core.Logic.{inl, inr}
use mathlib.Core.Bool.{Bool, true, false, ◌&&◌, false≢true}
use mathlib.Core.List.{List}
use Prim.Native.Nat.{ℕ, ◌≤◌, ◌<◌}
use native.Mathlib.Omega.{arith}
use lib.Dec.{eqb}
use lib.ListN.{get_or}
use borrow.Author.Tests.{ne_eqb, eqb-true, eqb-false}
use Rattle.ground.specs.Choose.{choose}
use Rattle.ground.proofs.Below.{each_below}
use Rattle.ground.proofs.Grow.{grow_at, grow_meet}
use Rattle.ground.proofs.Collect.{collect_get}
use Rattle.gates.specs.Boolean.{bool_gate}
use Rattle.gates.proofs.Laws.{bool_same, few_pins}
use Rattle.circuit.specs.Record.{kind_at, pin_at, is_input, inputs_before}
use Rattle.circuit.specs.Formed.{WellFormed}
use Rattle.lists.specs.declared.Fault.{Fault}
use Rattle.simulate.specs.Boolean.{Vector, Truths, good, faulty, gate_truth, line_truth, truths_to, truth_at}
use Rattle.heads.specs.Heads.{bound, head}
use Rattle.heads.proofs.Pins.{pin_lower}
use Rattle.heads.proofs.Forest.{Kept, free_sources, source_no-head, source_kept, head-free, bound-gate}
use Rattle.cut.specs.Cut.{cut, head_line, head_vector}
use Rattle.cut.specs.Words.{HeadsServe}
use Rattle.cut.proofs.Lines.{is_cut, cut-gate, cut-input, cut-inputs}

-- ---- what a fault that is served leaves alone

-- nothing is forced at a free line's pins, nor at a free line that is no head line
pub record Tame (c : List ℕ) (n : ℕ) (t : Truths) : Type 0 where
  pub pins : (k s : ℕ) (b : Bool) → bound c n k ≡ false → 1 ≤ s → t k s b ≡ b
  pub lines : (k : ℕ) (b : Bool) → bound c n k ≡ false → head c n k ≡ false → t k 0 b ≡ b

pub good_tame : (c : List ℕ) (n : ℕ) → Tame c n good
good_tame c n = record { pins = λ k s b _ _. refl; lines = λ k b _ _. refl }

-- off its site a fault forces nothing
fault_off : (fault : Fault) (k s : ℕ) (b : Bool) → (k ≡ fault.line → s ≡ fault.site → ⊥) → faulty fault k s b ≡ b
unfolding faulty
fault_off fault k s b h = go (eqb k fault.line) refl (eqb s fault.site) refl
  where
    go : (u : Bool) → eqb k fault.line ≡ u → (v : Bool) → eqb s fault.site ≡ v → choose (u && v) (eqb fault.value 1) b ≡ b
    go true e true f = absurd (h (eqb-true k _ e) (eqb-true s _ f))
    go true e false f = refl
    go false e v f = refl

pub fault_tame : (c : List ℕ) (n : ℕ) (fault : Fault) → HeadsServe c n fault → Tame c n (faulty fault)
fault_tame c n fault (inl e) = record {
  pins = λ k s b free _. fault_off fault k s b (λ q _. false≢true (sym free ∙ ap (bound c n) q ∙ e));
  lines = λ k b free _. fault_off fault k 0 b (λ q _. false≢true (sym free ∙ ap (bound c n) q ∙ e));
}
fault_tame c n fault (inr e) = record {
  pins = λ k s b _ a. fault_off fault k s b (λ _ q. omega (arith, e.1));
  lines = λ k b _ none. fault_off fault k 0 b (λ q _. false≢true (sym none ∙ ap (head c n) q ∙ e.0));
}

module _ {c : List ℕ} {m n : ℕ} (well : WellFormed c m n) (x : Vector) (t : Truths) (tame : Tame c n t) where
  -- the truth of a line before it is forced itself
  abbrev inner : ℕ → Bool
  inner k = choose (is_input c k) (x (inputs_before c k)) (gate_truth t c (truths_to t c x k) k)

  line-is : (k : ℕ) → k < n → truth_at t c x n k ≡ t k 0 (inner k)
  unfolding line_truth
  line-is k l = grow_at (line_truth t c x) false n k l

  -- ---- free lines: all is as in the good circuit, but for a force on a head line itself

  inner-good : (k : ℕ) → k < n → bound c n k ≡ false → inner k ≡ truth_at good c x n k
  unfolding line_truth gate_truth
  inner-good =
      each_below (λ k. bound c n k ≡ false → inner k ≡ truth_at good c x n k) n
      (λ k l below free. go k l below free (is_input c k) refl ∙ sym (grow_at (line_truth good c x) false n k l))
    where
      go : (k : ℕ)
          → k < n
          → ((j : ℕ) → j < k → bound c n j ≡ false → inner j ≡ truth_at good c x n j)
          → bound c n k ≡ false
          → (b : Bool)
          → is_input c k ≡ b
          → choose b (x (inputs_before c k)) (gate_truth t c (truths_to t c x k) k) ≡ choose b (x (inputs_before c k)) (gate_truth good c (truths_to good c x k) k)
      go k l below free true e = refl
      go k l below free false e =
          let some : kind_at c k ≡ 0 → ⊥ = eqb-false (kind_at c k) 0 e in
          bool_same (kind_at c k) _ _ (omega arith) (well.kinds k l)
          (λ s a b.
          let low : pin_at c k s < k = pin_lower well k s l a b in
          let source_free = (free_sources well k s l a b free).1 in
          tame.pins k s _ free a
          ∙ grow_meet (line_truth t c x) false k n (pin_at c k s) low (omega arith)
          ∙ line-is (pin_at c k s) (omega arith)
          ∙ tame.lines (pin_at c k s) _ source_free (source_no-head well k s l a b free)
          ∙ below (pin_at c k s) low source_free
          ∙ grow_meet (line_truth good c x) false n k (pin_at c k s) (omega arith) low)

  pub free-good : (k : ℕ) → k < n → bound c n k ≡ false → head c n k ≡ false → truth_at t c x n k ≡ truth_at good c x n k
  free-good k l free none = line-is k l ∙ tame.lines k _ free none ∙ inner-good k l free

  -- ---- head lines and bound lines

  abbrev d : List ℕ
  d = cut c n

  abbrev y : Vector
  y = head_vector c n x

  at_head : (k : ℕ) → k < n → head c n k ≡ true → y (inputs_before d k) ≡ truth_at good c x n k
  unfolding head_vector head_line
  at_head k l e = ap (truth_at good c x n) (rw (cut-inputs well k (omega arith)) (collect_get (head c n) (λ i. i) n k l e))

  head-same : (k : ℕ) → k < n → head c n k ≡ true → truth_at t d y n k ≡ truth_at t c x n k
  unfolding line_truth
  head-same k l e =
      grow_at (line_truth t d y) false n k l
      ∙ ap (t k 0) (rw (cut-input well k l ∙ e) (at_head k l e ∙ sym (inner-good k l (head-free well k e))))
      ∙ sym (grow_at (line_truth t c x) false n k l)

  -- of a line that the cut leaves a value
  abbrev Same : ℕ → Type 0
  Same k = Kept c n k → truth_at t d y n k ≡ truth_at t c x n k

  bound-same : (k : ℕ) → k < n → bound c n k ≡ true → ((j : ℕ) → j < k → Same j) → truth_at t d y n k ≡ truth_at t c x n k
  unfolding line_truth gate_truth
  bound-same k l e below =
      grow_at (line_truth t d y) false n k l
      ∙ ap (t k 0) (rw (ne_eqb (kind_at c k) 0 (bound-gate well k l e), cut-gate well k l e, (is_cut well).bound_kind k l e) gates)
      ∙ sym (grow_at (line_truth t c x) false n k l)
    where
      gates : bool_gate (kind_at c k) (λ s. t k s (get_or (truths_to t d y k) (pin_at d k s) false)) ≡ bool_gate (kind_at c k) (λ s. t k s (get_or (truths_to t c x k) (pin_at c k s) false))
      gates =
          let some = bound-gate well k l e in
          bool_same (kind_at c k) _ _ (omega arith) (well.kinds k l)
          (λ s a b.
          let low : pin_at c k s < k = pin_lower well k s l a b in
          ap (t k s)
          (ap (λ (q : ℕ). get_or (truths_to t d y k) q false) ((is_cut well).pins k s l a (omega (arith, few_pins (kind_at c k))))
          ∙ grow_meet (line_truth t d y) false k n (pin_at c k s) low (omega arith)
          ∙ below (pin_at c k s) low (source_kept well k s l a b e)
          ∙ grow_meet (line_truth t c x) false n k (pin_at c k s) (omega arith) low))

  pub cut-same : (k : ℕ) → k < n → Kept c n k → truth_at t d y n k ≡ truth_at t c x n k
  cut-same = each_below Same n go
    where
      go : (k : ℕ) → k < n → ((j : ℕ) → j < k → Same j) → Same k
      go k l below (inl e) = bound-same k l e below
      go k l below (inr e) = head-same k l e

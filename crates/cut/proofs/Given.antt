-- The simulation of the cut circuit is that of the circuit with its head lines given.
-- Assumes nothing.
use mathlib.Core.Path.{◌≡◌, refl, ap, ◌∙◌}
use mathlib.Core.Bool.{Bool, true, false}
use mathlib.Core.List.{List}
use Prim.Native.Nat.{ℕ, ◌<◌}
use native.Mathlib.Omega.{arith}
use lib.Dec.{eqb}
use lib.ListN.{get_or}
use borrow.Author.Tests.{ne_eqb}
use Rattle.ground.specs.Choose.{choose}
use Rattle.ground.proofs.Grow.{grow-same}
use Rattle.gates.specs.Gate.{X, gate_of}
use Rattle.gates.proofs.Laws.{gate_same, few_pins}
use Rattle.gates.proofs.Table.{other}
use Rattle.circuit.specs.Record.{kind_at, pin_at, is_input, inputs_before}
use Rattle.circuit.specs.Formed.{WellFormed}
use Rattle.simulate.specs.Simulate.{Forcing, gate_value, line_value, values_to}
use Rattle.heads.specs.Heads.{bound, head, heads_before}
use Rattle.heads.proofs.Forest.{bound-gate}
use Rattle.cut.specs.Cut.{cut}
use Rattle.cut.specs.Given.{shown, given}
use Rattle.cut.proofs.Lines.{is_cut, cut-gate, cut-input, cut-inputs}

module _ {c : List ℕ} {m n : ℕ} (well : WellFormed c m n) (f : Forcing) (s p : List ℕ) where
  -- the value of line k where it is free, and what its gate's pins see, where b says that it is bound and h that it is a head line
  abbrev free_value : ℕ → Bool → ℕ
  free_value k h = choose h (get_or s (heads_before c n k) 0) X

  abbrev sees : List ℕ → ℕ → Bool → Bool → ℕ → ℕ
  sees vs k b h q = f k q (choose (eqb q 0) (choose b (get_or vs (pin_at c k q) 0) (free_value k h)) (get_or vs (pin_at c k q) 0))

  line-given : (vs : List ℕ) (k : ℕ) → k < n → line_value f (cut c n) s vs k ≡ line_value (given c n s f) c p vs k
  unfolding line_value gate_value given shown
  line-given vs k l = go (bound c n k) refl (head c n k) refl
    where
      go : (b : Bool)
          → bound c n k ≡ b
          → (h : Bool)
          → head c n k ≡ h
          → line_value f (cut c n) s vs k ≡ f k 0 (choose b (choose (is_input c k) (get_or p (inputs_before c k) 0) (gate_of (kind_at c k) (sees vs k b h))) (free_value k h))
      go true e h g =
          let no : is_input c k ≡ false = ne_eqb (kind_at c k) 0 (bound-gate well k l e) in
          ap (f k 0)
          (rw (no, cut-gate well k l e, (is_cut well).bound_kind k l e)
          (gate_same (kind_at c k) _ _
          (λ q a b. rw (ne_eqb q 0 (λ z. omega arith), (is_cut well).pins k q l a (omega (arith, few_pins (kind_at c k)))))))
      go false e true g = ap (f k 0) (rw (cut-input well k l ∙ g, cut-inputs well k (omega arith)))
      go false e false g =
          ap (f k 0) (rw (cut-input well k l ∙ g) (other (kind_at (cut c n) k) _ ((is_cut well).rest_kind k l e g)))

  pub cut_values : values_to f (cut c n) s n ≡ values_to (given c n s f) c p n
  cut_values = grow-same (line_value f (cut c n) s) (line_value (given c n s f) c p) n (λ k. line-given (values_to (given c n s f) c p k) k)

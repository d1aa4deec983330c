-- Where the head lines are known, so are the bound lines; other free lines never are.
-- Assumes nothing.
use mathlib.Core.Path.{◌≡◌, ap, ◌∙◌}
use mathlib.Core.Logic.{inl, inr}
use mathlib.Core.Bool.{true, false}
use mathlib.Core.List.{List}
use Prim.Native.Nat.{ℕ, ◌<◌}
use native.Mathlib.Omega.{arith}
use lib.ListN.{length, get_or}
use Rattle.ground.proofs.Below.{each_below}
use Rattle.ground.proofs.Counting.{count_below_lem}
use Rattle.ground.proofs.Grow.{grow_at, grow_meet}
use Rattle.gates.specs.Gate.{X, gate_of}
use Rattle.gates.proofs.Laws.{gate-known, few_pins}
use Rattle.gates.proofs.Table.{other}
use Rattle.circuit.specs.Record.{kind_at, pin_at, inputs_before}
use Rattle.circuit.specs.Formed.{WellFormed}
use Rattle.simulate.specs.Simulate.{Forcing, gate_value, line_value, values_to}
use Rattle.simulate.specs.Vectors.{NoX}
use Rattle.simulate.specs.Owed.{Keeps}
use Rattle.heads.specs.Heads.{bound, head, heads_of}
use Rattle.heads.proofs.Pins.{pin_lower}
use Rattle.heads.proofs.Forest.{Kept, source_kept, bound-gate}
use Rattle.cut.specs.Cut.{cut}
use Rattle.cut.proofs.Lines.{is_cut, cut-gate, cut-input, cut-inputs}

-- a free line that is no head line is X before it is forced
pub rest_x : {c : List ℕ} {m n : ℕ} → WellFormed c m n → (f : Forcing) (s : List ℕ) (k : ℕ) → k < n → bound c n k ≡ false → head c n k ≡ false → get_or (values_to f (cut c n) s n) k 0 ≡ f k 0 X
unfolding line_value gate_value
rest_x {c} {m} {n} well f s k l free none =
    grow_at (line_value f (cut c n) s) 0 n k l
    ∙ ap (f k 0) (rw (cut-input well k l ∙ none) (other (kind_at (cut c n) k) _ ((is_cut well).rest_kind k l free none)))

module _ (f : Forcing) (keeps : Keeps 2 f) {c : List ℕ} {m n : ℕ} (well : WellFormed c m n) (s : List ℕ) (heads : length s ≡ heads_of c n) (full : NoX s) where
  abbrev d : List ℕ
  d = cut c n

  abbrev Known : ℕ → Type 0
  Known k = Kept c n k → get_or (values_to f d s n) k 0 < 2

  head-known : (k : ℕ) → k < n → head c n k ≡ true → get_or (values_to f d s n) k 0 < 2
  unfolding line_value
  head-known k l e =
      rw (grow_at (line_value f d s) 0 n k l, cut-input well k l ∙ e)
      (keeps k 0 _ (full (inputs_before d k) (rw (cut-inputs well k (omega arith)) (omega (arith, count_below_lem (head c n) k n l e)))))

  bound-known : (k : ℕ) → k < n → bound c n k ≡ true → ((j : ℕ) → j < k → Known j) → get_or (values_to f d s n) k 0 < 2
  unfolding line_value gate_value
  bound-known k l e below = rw (grow_at (line_value f d s) 0 n k l, cut-gate well k l e, (is_cut well).bound_kind k l e) (keeps k 0 _ known)
    where
      known : gate_of (kind_at c k) (λ q. f k q (get_or (values_to f d s k) (pin_at d k q) 0)) < 2
      known =
          let some = bound-gate well k l e in
          gate-known (kind_at c k) _ (omega arith) (well.kinds k l)
          (λ q a b.
          let low : pin_at c k q < k = pin_lower well k q l a b in
          keeps k q _
          (rw ((is_cut well).pins k q l a (omega (arith, few_pins (kind_at c k))), grow_meet (line_value f d s) 0 k n (pin_at c k q) low (omega arith))
          (below (pin_at c k q) low (source_kept well k q l a b e))))

  pub kept-known : (k : ℕ) → k < n → Kept c n k → get_or (values_to f d s n) k 0 < 2
  kept-known = each_below Known n go
    where
      go : (k : ℕ) → k < n → ((j : ℕ) → j < k → Known j) → Known k
      go k l below (inl e) = bound-known k l e below
      go k l below (inr e) = head-known k l e

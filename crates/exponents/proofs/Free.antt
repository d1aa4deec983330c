-- A line that no branch reaches is set for certain, to either value.
-- Assumes nothing.
use mathlib.Core.Path.{◌≡◌, refl, sym, ◌∙◌}
use mathlib.Core.Bool.{Bool, true, false, not}
use mathlib.Core.List.{List}
use Prim.Native.Nat.{ℕ, suc, ◌-◌, ◌≤◌, ◌<◌}
use native.Mathlib.Omega.{arith}
use Rattle.ground.proofs.Below.{each_below, not_any}
use Rattle.ground.proofs.Tests.{neither}
use Rattle.gates.specs.Gate.{last_kind, pins_of}
use Rattle.gates.proofs.Laws.{AtPins}
use Rattle.circuit.specs.Record.{kind_at, pin_at}
use Rattle.circuit.specs.Formed.{WellFormed}
use Rattle.reads.specs.Reads.{branches}
use Rattle.heads.specs.Heads.{some_pin, bound}
use Rattle.heads.proofs.Pins.{pin_lower}
use Rattle.heads.proofs.Forest.{bound_law}
use Rattle.chances.specs.Exponents.{Exponents, and_exponents, or_exponents, xor_exponents, select_exponents, gate_exponents}
use Rattle.chances.proofs.ByKind.{each_kind}
use Rattle.exponents.specs.Lines.{exponents, pin_exponents}
use Rattle.exponents.proofs.Lines.{line_law}

-- nothing is needed for either value
abbrev Certain : Exponents → Type 0
Certain e = (v : Bool) → e v ≡ 0

module _ {e f : Exponents} (a : Certain e) (b : Certain f) where
  and_certain : Certain (and_exponents e f)
  and_certain true = omega (arith, a true, b true)
  and_certain false = omega (arith, a false, b false)

  or_certain : Certain (or_exponents e f)
  or_certain true = omega (arith, a true, b true)
  or_certain false = omega (arith, a false, b false)

  xor_certain : Certain (xor_exponents e f)
  xor_certain v = omega (arith, a false, b v)

  select_certain : {s : Exponents} → Certain s → Certain (select_exponents e f s)
  select_certain c v = omega (arith, a v, c false)

-- a gate whose pins need nothing needs nothing
gate_certain : (e : ℕ → Exponents) (kind : ℕ) → kind ≤ last_kind → AtPins kind (λ s. Certain (e s)) → Certain (gate_exponents kind e)
unfolding gate_exponents pins_of
gate_certain e =
    each_kind (λ kind. ((s : ℕ) → 1 ≤ s → s ≤ pins_of kind → Certain (e s)) → Certain (gate_exponents kind e))
    (λ a v. refl)
    (λ a. a 1 (omega arith) (omega arith))
    (λ a v. a 1 (omega arith) (omega arith) (not v))
    (both and_certain)
    (λ a v. both and_certain a (not v))
    (both or_certain)
    (λ a v. both or_certain a (not v))
    (both xor_certain)
    (λ a v. both xor_certain a (not v))
    (λ a. select_certain (a 1 (omega arith) (omega arith)) (a 2 (omega arith) (omega arith)) (a 3 (omega arith) (omega arith)))
  where
    both : {r : Exponents} → (Certain (e 1) → Certain (e 2) → Certain r) → ((s : ℕ) → 1 ≤ s → s ≤ 2 → Certain (e s)) → Certain r
    both rule a = rule (a 1 (omega arith) (omega arith)) (a 2 (omega arith) (omega arith))

module _ {c : List ℕ} {m n : ℕ} (well : WellFormed c m n) where
  -- a pin of a free line reads a free line, which does not branch
  reads_free : (k s : ℕ) → k < n → bound c n k ≡ false → 1 ≤ s → s ≤ pins_of (kind_at c k) → (branches c n (pin_at c k s) ≡ false) × (bound c n (pin_at c k s) ≡ false)
  unfolding some_pin
  reads_free k s l e a b =
      let q : suc (s - 1) ≡ s = omega arith in
      neither _ _ (rw q at (not_any (pins_of (kind_at c k)) _ (sym (bound_law well k l) ∙ e) (s - 1) (omega arith)))

  pub free_certain : (k : ℕ) → k < n → bound c n k ≡ false → (v : Bool) → exponents c n k v ≡ 0
  free_certain = each_below (λ k. bound c n k ≡ false → Certain (exponents c n k)) n line
    where
      line : (k : ℕ) → k < n → ((j : ℕ) → j < k → bound c n j ≡ false → Certain (exponents c n j)) → bound c n k ≡ false → Certain (exponents c n k)
      line k l below e v =
          let made : gate_exponents (kind_at c k) (pin_exponents c n k) v ≡ 0 = gate_certain (pin_exponents c n k) (kind_at c k) (well.kinds k l) pins v in
          line_law well k l v ∙ rw made
        where
          pins : AtPins (kind_at c k) (λ s. Certain (pin_exponents c n k s))
          pins s a b w =
              let free = reads_free k s l e a b in
              rw (free.0, below (pin_at c k s) (pin_lower well k s l a b) free.1 w)

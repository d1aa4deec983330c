-- The value of one line, as the code finds it.
-- Assumes nothing.
use mathlib.Core.Path.{◌≡◌, ap, ◌∙◌}
use mathlib.Core.List.{List}
use Prim.Native.Nat.{ℕ, ◌≤◌, ◌<◌}
use lib.ListN.{get_or}
use borrow.Author.Tests.{eq-eqb, ne_eqb}
use Rattle.gates.specs.Gate.{gate_of, at_pins}
use Rattle.gates.specs.Owed.{SourcesSmall}
use Rattle.circuit.specs.Record.{kind_at, pin_at}
use Rattle.simulate.specs.Simulate.{Forcing, gate_value}
use Rattle.simulate.specs.Owed.{Ordered, line_in, PinsSmall}

module _ (f : Forcing) (c vs : List ℕ) (k : ℕ) where
  -- an input
  pub input_in : kind_at c k ≡ 0 → f k 0 (get_or vs k 0) ≡ line_in f c vs k
  unfolding line_in
  input_in e = rw (eq-eqb _ _ e)

  -- a gate whose pins see x, y and z
  module _ {x y z : ℕ} (ne : kind_at c k ≡ 0 → ⊥) (p : x ≡ f k 1 (get_or vs (pin_at c k 1) 0)) (q : y ≡ f k 2 (get_or vs (pin_at c k 2) 0)) (s : z ≡ f k 3 (get_or vs (pin_at c k 3) 0)) where
    pub gate_in : {r : ℕ} → r ≡ gate_of (kind_at c k) (at_pins x y z) → f k 0 r ≡ line_in f c vs k
    unfolding line_in gate_value gate_of
    gate_in e = rw (ne_eqb _ _ ne) (ap (f k 0) (e ∙ rw (p, q, s)))

    -- by a rule for 0, 1 and X
    pub small_gate_in : {r : ℕ} → (SourcesSmall (kind_at c k) x y → r ≡ gate_of (kind_at c k) (at_pins x y z)) → PinsSmall f c vs k → f k 0 r ≡ line_in f c vs k
    small_gate_in e small = gate_in (e (rw (p, q) (small ne)))

-- a source stands among the lines
pub source_inside : {c : List ℕ} {n k : ℕ} → Ordered c n → k < n → (kind_at c k ≡ 0 → ⊥) → (s : ℕ) → 1 ≤ s → s ≤ 3 → pin_at c k s < n
source_inside o l ne s a b = o.inside _ l ne s a b

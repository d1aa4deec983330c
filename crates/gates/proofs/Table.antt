-- The places of the tables.
-- Assumes nothing.
use mathlib.Core.Path.{◌≡◌, refl, ◌∙◌}
use Prim.Native.Nat.{ℕ, suc, ◌≤◌}
use native.Mathlib.Omega.{arith}
use lib.Dec.{eqb}
use lib.ListN.{length, get_or, get_or-eq_default}
use borrow.Author.Tests.{ne_eqb}
use Rattle.ground.specs.Choose.{choose}
use Rattle.gates.specs.Gate.{X, last_kind, selector, gate_table, selector_table, place_of, value_in, gate_of}

-- the value for kind k where the pins see a, b and c, each 0, 1 or X
abbrev pub table_at : ℕ → ℕ → ℕ → ℕ → ℕ
table_at k a b c = choose (eqb k selector) (get_or selector_table (place_of c a b) X) (get_or gate_table (place_of k a b) X)

places : length gate_table ≡ 81
unfolding gate_table
places = refl

pub choices : length selector_table ≡ 27
unfolding selector_table
choices = refl

-- beyond the table every value is X
pub beyond : (at : ℕ) → 81 ≤ at → get_or gate_table at X ≡ X
beyond at h = get_or-eq_default gate_table X (omega (arith, places))

module _ (k : ℕ) (v : ℕ → ℕ) where
  -- every kind but the selector goes to the table of the kinds
  pub by_kind : (k ≡ selector → ⊥) → gate_of k v ≡ value_in gate_table k v
  unfolding gate_of
  by_kind ne = rw (ne_eqb k selector ne)

  -- a kind without a rule finds nothing there
  pub other : suc last_kind ≤ k → gate_of k v ≡ 2
  other h = by_kind (λ e. omega arith) ∙ beyond _ (omega arith)

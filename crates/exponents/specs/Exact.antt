-- That nothing is rounded on the way to a line's chances: what a pin takes, half or all, and each product of what two pins of a gate see, is exact as f64. The
-- larger of two and the floor are chosen, not computed.
-- Assumes nothing.
use Rattle.std.specs.Prelude.{◌≡◌, Bool, List, ℕ, ◌≤◌, ◌<◌}
use Rattle.ground.specs.Choose.{one}
use Rattle.circuit.specs.Record.{kind_at}
use Rattle.halves.specs.Half.{half}
use Rattle.halves.specs.Exact.{ExactProduct}
use Rattle.exponents.specs.Lines.{exponents, pin_exponents}

pub record NothingRounded (c : List ℕ) (n : ℕ) : Type 0 where
  -- pins s and t of line k, for any values
  pub products : (k s t : ℕ) → k < n → (kind_at c k ≡ 0 → ⊥) → 1 ≤ s → s ≤ 3 → 1 ≤ t → t ≤ 3
      → (v w : Bool) → ExactProduct (half (pin_exponents c n k s v)) (half (pin_exponents c n k t w))
  -- what line k has, times one half or times 1
  pub shares : (k : ℕ) → k < n → (v branching : Bool) → ExactProduct (half (exponents c n k v)) (half (one branching))

-- The layout of a circuit record, field by field: as a test, and in the paper's words. They are proved equivalent.
-- The fields in layout order: 0 the kind, 1 the output byte, then the sources: 2 the first, 3 the second, 4 the select line, which the selector alone has.
-- Assumes nothing.
use Rattle.std.specs.Prelude.{◌≡◌, Bool, List, ℕ, zero, suc, ◌≤◌, ◌<◌, eqb, leb, ltb}
use Rattle.ground.specs.Choose.{choose}
use Rattle.ground.specs.Below.{all_below}
use Rattle.gates.specs.Gate.{last_kind, pins_of}
use Rattle.circuit.specs.Record.{kind_at, out_at, pin_at}

-- ---- as a test

-- a source that the kind has is lower than the line, one that it lacks is 0
unfoldable pub pin_ok : List ℕ → ℕ → ℕ → Bool
pin_ok c k s = choose (leb s (pins_of (kind_at c k))) (ltb (pin_at c k s) k) (eqb (pin_at c k s) 0)

-- field f of line k keeps its rule
unfoldable pub field_ok : List ℕ → ℕ → ℕ → Bool
field_ok c k zero = leb (kind_at c k) last_kind
field_ok c k (suc zero) = leb (out_at c k) 1
field_ok c k (suc (suc s)) = pin_ok c k (suc s)

-- each field keeps its rule
unfoldable pub line_ok : List ℕ → ℕ → Bool
line_ok c k = all_below 5 (field_ok c k)

-- ---- in words

-- each source that the kind has is lower than the line itself; one that it lacks is 0
pub record Pin (c : List ℕ) (k s : ℕ) : Type 0 where
  pub has : s ≤ pins_of (kind_at c k) → pin_at c k s < k
  pub lacks : pins_of (kind_at c k) < s → pin_at c k s ≡ 0

-- the rule of field f
abbrev pub Field : List ℕ → ℕ → ℕ → Type 0
Field c k zero = kind_at c k ≤ last_kind
Field c k (suc zero) = out_at c k ≤ 1
Field c k (suc (suc s)) = Pin c k (suc s)

-- each field keeps its rule
pub record Layout (c : List ℕ) (k : ℕ) : Type 0 where
  pub kind : Field c k 0
  pub output : Field c k 1
  pub pin : (s : ℕ) → 1 ≤ s → s ≤ 3 → Pin c k s

-- Patterns and complete input vectors.
-- Assumes nothing.
use Rattle.std.specs.Prelude.{List, ℕ, ◌<◌, length, get_or}
use Rattle.ground.specs.Choose.{one}
use Rattle.ground.specs.Lists.{table}
use Rattle.gates.specs.Gate.{Refines}
use Rattle.simulate.specs.Boolean.{Vector}

-- a vector as a pattern of so many inputs
abbrev pub pattern_of : ℕ → Vector → List ℕ
pattern_of n x = table (λ i. one (x i)) n

-- the pattern p has no X
abbrev pub NoX : List ℕ → Type 0
NoX p = (i : ℕ) → i < length p → get_or p i 0 < 2

-- the vector x is a filling of the X's of p
abbrev pub Fills : List ℕ → Vector → Type 0
Fills p x = (i : ℕ) → i < length p → Refines (get_or p i 0) (one (x i))

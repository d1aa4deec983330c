-- A product of floats that is not rounded. `HasValue x false a b` says that x is the fraction a / b.
-- Assumes nothing.
use Rattle.std.specs.Prelude.{false, ℕ, ◌*◌, ◌<◌, Float}
use Rattle.std.specs.Float.{binary64}
use Rattle.std.specs.Float.Ieee.{mul}
use Rattle.std.specs.Float.Ieee.Exact.{HasValue}

-- where x is a / b and y is c / d, the f64 that comes of x * y is (a * c) / (b * d)
pub record ExactProduct (x y : Float) : Type 0 where
  pub exact : (a b c d : ℕ) → 0 < b → 0 < d → HasValue x false a b → HasValue y false c d → HasValue (mul binary64 x y) false (a * c) (b * d)

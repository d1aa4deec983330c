-- The powers of one half as floats.
-- Assumes nothing.
use Rattle.std.specs.Prelude.{ℕ, zero, suc, false, pos, negsuc, Float}
use Rattle.std.specs.Float.{fin}

-- one half to the power of n: positive, with the significand 1 and the exponent -n
unfoldable pub half : ℕ → Float
half zero = fin false 1 (pos 0)
half (suc k) = fin false 1 (negsuc k)

-- the exponent of the smallest f64 above 0
abbrev pub least : ℕ
least = 1074

-- a line's chance does not go below one half to the power of this
abbrev pub floor_exponent : ℕ
floor_exponent = 500

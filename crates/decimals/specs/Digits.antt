-- Numbers in decimal, as bytes: 48 to 57 are the digits.
-- Assumes nothing.
use Rattle.std.specs.Prelude.{List, [], ◌∷◌, ◌++◌, ℕ, zero, suc, ◌+◌, ◌-◌, ◌*◌, ◌/◌, ◌%◌, ltb}
use Rattle.ground.specs.Choose.{choose}

-- the digits of n, at most f of them
unfoldable pub digits : ℕ → ℕ → List ℕ
digits zero n = []
digits (suc f) n = choose (ltb n 10) ((n + 48) ∷ []) (digits f (n / 10) ++ ((n % 10 + 48) ∷ []))

-- a number in decimal: 20 digits are enough for every number below 2^64
abbrev pub decimal : ℕ → List ℕ
decimal n = digits 20 n

-- what digits say, read from the left: `digits_value` shows that they say the number
abbrev pub value_from : ℕ → List ℕ → ℕ
value_from n [] = n
value_from n (d ∷ ds) = value_from (10 * n + (d - 48)) ds

-- Chances as fractions of whole numbers.
-- Assumes nothing.
use Rattle.std.specs.Prelude.{◌≡◌, ℕ, ◌*◌, ◌^◌, ◌<◌, leb}
use Rattle.std.proofs.Common.{zero-lt-suc, mul-pos, pow_pos}
use Rattle.ground.specs.Choose.{choose}
use Rattle.halves.specs.Half.{floor_exponent}

pub record Fraction : Type 0 where
  pub top : ℕ
  pub bottom : ℕ
  pub some : 0 < bottom

-- the same number
abbrev pub Equal : Fraction → Fraction → Type 0
Equal p q = p.top * q.bottom ≡ q.top * p.bottom

-- one half to the power of e
abbrev pub power : ℕ → Fraction
power e = record { top = 1; bottom = 2 ^ e; some = pow_pos e }

abbrev pub unity : Fraction
unity = power 0

abbrev pub product : Fraction → Fraction → Fraction
product p q = record { top = p.top * q.top; bottom = p.bottom * q.bottom; some = mul-pos p.some q.some }

abbrev pub halved : Fraction → Fraction
halved p = product p (power 1)

abbrev pub larger : Fraction → Fraction → Fraction
larger p q = choose (leb (p.top * q.bottom) (q.top * p.bottom)) q p

-- what is below one half to the power of 500 becomes that
abbrev pub floored : Fraction → Fraction
floored p = larger p (power floor_exponent)

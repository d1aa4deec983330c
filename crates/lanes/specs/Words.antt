-- Words of 64 lanes by their bits; `lanes_of` is proved to say the same.
-- Assumes nothing.
use Rattle.std.specs.Prelude.{◌≡◌, Bool, ℕ, ◌^◌, ◌<◌}
use Rattle.ground.specs.Choose.{one}
use Rattle.lanes.specs.Lanes.{bit_at}

-- of the 64 bits of w, bit i is set exactly if the test holds at i
pub record Bits (t : ℕ → Bool) (w : ℕ) : Type 0 where
  pub fits : w < 2 ^ 64
  pub bits : (i : ℕ) → i < 64 → bit_at w i ≡ one (t i)

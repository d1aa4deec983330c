-- Words of 64 lanes, bit i for lane i; three values in two words; and the gate rule on them.
-- Assumes nothing.
use Rattle.std.specs.Prelude.{◌≡◌, Bool, ℕ, zero, suc, ◌+◌, ◌*◌, ◌/◌, ◌%◌, ◌^◌, ◌<◌, eqb}
use Rattle.ground.specs.Choose.{one}
use Rattle.gates.specs.Gate.{gate_of, at_pins}
use Rattle.lanes.specs.declared.Lanes.{Lanes}

-- the lanes below n at which a test holds, as a number
abbrev pub lanes_to : (ℕ → Bool) → ℕ → ℕ
lanes_to t zero = 0
lanes_to t (suc n) = one (t n) * 2 ^ n + lanes_to t n

-- as a word
unfoldable pub lanes_of : (ℕ → Bool) → ℕ
lanes_of t = lanes_to t 64

-- the lanes with a 1, and those with a 0, where lane i has the value v i; a lane with X is in neither
abbrev pub ones_of : (ℕ → ℕ) → ℕ
ones_of v = lanes_of (λ i. eqb (v i) 1)

abbrev pub zeros_of : (ℕ → ℕ) → ℕ
zeros_of v = lanes_of (λ i. eqb (v i) 0)

abbrev pub laid : (ℕ → ℕ) → Lanes
laid v = record { ones = ones_of v; zeros = zeros_of v }

-- ---- the word rule

-- bit i of a number
abbrev pub bit_at : ℕ → ℕ → ℕ
bit_at w i = w / 2 ^ i % 2

-- lane i carries the value v
pub record InLane (a : Lanes) (i v : ℕ) : Type 0 where
  pub one_bit : bit_at a.ones i ≡ one (eqb v 1)
  pub zero_bit : bit_at a.zeros i ≡ one (eqb v 0)

-- where lane i at the pins carries u, v and w, lane i of the result carries what the gate rule says, whatever is in the other lanes
abbrev pub GateLanes : ℕ → Lanes → Lanes → Lanes → Lanes → Type 0
GateLanes kind a b c r = (i u v w : ℕ) → i < 64 → InLane a i u → InLane b i v → InLane c i w → InLane r i (gate_of kind (at_pins u v w))

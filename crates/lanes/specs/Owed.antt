-- What the functions of the lanes owe each other; no reader of the promises needs it.
-- Assumes nothing.
use Rattle.std.specs.Prelude.{Bool, ◌||◌, ℕ, ◌<◌, eqb, leb}
use Rattle.ground.specs.Choose.{choose}
use Rattle.gates.specs.Gate.{three_of}
use Rattle.gates.specs.Words.{not_of, and_of, xor_of}
use Rattle.lanes.specs.declared.Lanes.{Lanes}
use Rattle.lanes.specs.Lanes.{InLane}

-- what is done to one value, to two or to three is done in every lane
abbrev pub Lanewise : (ℕ → ℕ) → Lanes → Lanes → Type 0
Lanewise f a r = (i v : ℕ) → i < 64 → InLane a i v → InLane r i (f v)

abbrev pub Lanewise2 : (ℕ → ℕ → ℕ) → Lanes → Lanes → Lanes → Type 0
Lanewise2 f a b r = (i v w : ℕ) → i < 64 → InLane a i v → InLane b i w → InLane r i (f v w)

abbrev pub Lanewise3 : (ℕ → ℕ → ℕ → ℕ) → Lanes → Lanes → Lanes → Lanes → Type 0
Lanewise3 f a b c r = (i u v w : ℕ) → i < 64 → InLane a i u → InLane b i v → InLane c i w → InLane r i (f u v w)

-- ---- a gate of kinds 1 to 8 as AND or XOR, with its pins or its result negated

-- OR and NOR
unfoldable pub turns_pins : ℕ → Bool
turns_pins kind = eqb kind 5 || eqb kind 6

-- NOT, NAND, OR and XNOR
unfoldable pub turns_result : ℕ → Bool
turns_result kind = eqb kind 2 || (eqb kind 4 || (eqb kind 5 || eqb kind 8))

unfoldable pub turned_of : Bool → ℕ → ℕ
turned_of turn v = choose turn (not_of v) (three_of v)

-- buffer and NOT see the same twice
unfoldable pub second_of : ℕ → ℕ → ℕ → ℕ
second_of kind a b = choose (leb kind 2) a b

-- XOR and XNOR, or one of the others
unfoldable pub core_of : ℕ → ℕ → ℕ → ℕ
core_of kind a b = choose (leb 7 kind) (xor_of a b) (and_of a b)

unfoldable pub shape_of : ℕ → ℕ → ℕ → ℕ
shape_of kind a b = turned_of (turns_result kind) (core_of kind (turned_of (turns_pins kind) a) (turned_of (turns_pins kind) (second_of kind a b)))

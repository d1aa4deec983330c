-- What is put on the sources of a gate that is to have a known value: as a table, and in the request's words. They are proved equivalent.
-- Assumes nothing.
use Rattle.std.specs.Prelude.{◌≡◌, ◌⊎◌, List, [], ◌∷◌, ℕ, ◌+◌, ◌-◌, ◌*◌, ◌≤◌, ◌<◌, get_or}
use Rattle.ground.specs.Choose.{choose}
use Rattle.gates.specs.Gate.{X, known, selector, gate_of, at_pins}

-- ---- as a table

-- what the pins 1, 2 and 3 of each kind get, first for a gate that is to have 0, then for one that is to have 1
unfoldable pub need_table : List ℕ
need_table =
    -- input
    X ∷ X ∷ X ∷ X ∷ X ∷ X ∷
    -- buffer
    0 ∷ X ∷ X ∷ 1 ∷ X ∷ X ∷
    -- NOT
    1 ∷ X ∷ X ∷ 0 ∷ X ∷ X ∷
    -- AND
    0 ∷ X ∷ X ∷ 1 ∷ 1 ∷ X ∷
    -- NAND
    1 ∷ 1 ∷ X ∷ 0 ∷ X ∷ X ∷
    -- OR
    0 ∷ 0 ∷ X ∷ 1 ∷ X ∷ X ∷
    -- NOR
    1 ∷ X ∷ X ∷ 0 ∷ 0 ∷ X ∷
    -- XOR
    0 ∷ 0 ∷ X ∷ 0 ∷ 1 ∷ X ∷
    -- XNOR
    0 ∷ 1 ∷ X ∷ 0 ∷ 0 ∷ X ∷
    -- selector
    0 ∷ X ∷ 0 ∷ 1 ∷ X ∷ 0 ∷
    []

-- what pin s, from 1 to 3, of a gate gets that is to have the value v: X, so nothing, if v is X
unfoldable pub need_of : ℕ → ℕ → ℕ → ℕ
need_of kind v s = choose (known v) (get_or need_table (6 * kind + 3 * v + (s - 1)) X) X

-- ---- in words

-- the first source alone, at u, forces the value v
abbrev pub ForcedBy : ℕ → ℕ → ℕ → Type 0
ForcedBy kind v u = gate_of kind (at_pins u X X) ≡ v

pub record Alone (put : ℕ → ℕ) (u : ℕ) : Type 0 where
  pub first : put 1 ≡ u
  pub second : put 2 ≡ X
  pub third : put 3 ≡ X

-- put s is what pin s of a gate gets that is to have the known value v
pub record Needs (kind v : ℕ) (put : ℕ → ℕ) : Type 0 where
  -- the gate then has that value
  pub gives : gate_of kind put ≡ v
  -- where the first source can force it alone, it does, and the others stay X
  pub forced : (u : ℕ) → u < 2 → ForcedBy kind v u → Alone put u
  -- where it can't, the kinds 3 to 6, AND, NAND, OR and NOR, set both sources to one value
  pub both : ((u : ℕ) → u < 2 → ForcedBy kind v u → ⊥) → 3 ≤ kind → kind ≤ 6 → (put 1 < 2) × (put 2 ≡ put 1)
  -- the kinds 7 and 8, XOR and XNOR, have 0 on the first source, and so need the second
  pub differs : (kind ≡ 7) ⊎ (kind ≡ 8) → (put 1 ≡ 0) × (put 2 < 2)
  -- a selector has 0 on its select, and needs its first source
  pub chooses : kind ≡ selector → (put 3 ≡ 0) × (put 1 < 2) × (put 2 ≡ X)

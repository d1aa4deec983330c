-- The gate rule: kinds 0 to 9; values 0, 1 and 2 for X. Total: every number from 2 on counts as X, a kind without a rule gives X.
-- Assumes nothing.
use Rattle.std.specs.Prelude.{◌≡◌, Bool, List, [], ◌∷◌, ℕ, ◌+◌, ◌*◌, ◌<◌, ltb, leb, eqb, get_or}
use Rattle.ground.specs.Choose.{choose}

-- a value is known if it is 0 or 1
abbrev pub known : ℕ → Bool
known v = ltb v 2

abbrev pub last_kind : ℕ
last_kind = 9

-- the one kind with three pins: two sources, and at pin 3 the select line
abbrev pub selector : ℕ
selector = 9

-- how many pins a kind has: an input none, buffer and NOT one, the selector three, the others two
unfoldable pub pins_of : ℕ → ℕ
pins_of kind = choose (eqb kind 0) 0 (choose (leb kind 2) 1 (choose (eqb kind selector) 3 2))

abbrev pub X : ℕ
X = 2

-- Blocks of nine values, in three rows: the row by what the first pin sees, the place in it by what the second sees, each in the order 0, 1, X.
-- For the kinds with at most two pins there is a block a kind:
unfoldable pub gate_table : List ℕ
gate_table =
    -- 0 input, never used
    X ∷ X ∷ X ∷
    X ∷ X ∷ X ∷
    X ∷ X ∷ X ∷
    -- 1 buffer
    0 ∷ 0 ∷ 0 ∷
    1 ∷ 1 ∷ 1 ∷
    X ∷ X ∷ X ∷
    -- 2 NOT
    1 ∷ 1 ∷ 1 ∷
    0 ∷ 0 ∷ 0 ∷
    X ∷ X ∷ X ∷
    -- 3 AND
    0 ∷ 0 ∷ 0 ∷
    0 ∷ 1 ∷ X ∷
    0 ∷ X ∷ X ∷
    -- 4 NAND
    1 ∷ 1 ∷ 1 ∷
    1 ∷ 0 ∷ X ∷
    1 ∷ X ∷ X ∷
    -- 5 OR
    0 ∷ 1 ∷ X ∷
    1 ∷ 1 ∷ 1 ∷
    X ∷ 1 ∷ X ∷
    -- 6 NOR
    1 ∷ 0 ∷ X ∷
    0 ∷ 0 ∷ 0 ∷
    X ∷ 0 ∷ X ∷
    -- 7 XOR
    0 ∷ 1 ∷ X ∷
    1 ∷ 0 ∷ X ∷
    X ∷ X ∷ X ∷
    -- 8 XNOR
    1 ∷ 0 ∷ X ∷
    0 ∷ 1 ∷ X ∷
    X ∷ X ∷ X ∷
    []

-- for the selector a block for each value at its select, in the same order
unfoldable pub selector_table : List ℕ
selector_table =
    -- 0 the first source
    0 ∷ 0 ∷ 0 ∷
    1 ∷ 1 ∷ 1 ∷
    X ∷ X ∷ X ∷
    -- 1 the second
    0 ∷ 1 ∷ X ∷
    0 ∷ 1 ∷ X ∷
    0 ∷ 1 ∷ X ∷
    -- X their value if both are known and equal
    0 ∷ X ∷ X ∷
    X ∷ 1 ∷ X ∷
    X ∷ X ∷ X ∷
    []

-- 0 and 1 as they are, every other number as X
unfoldable pub three_of : ℕ → ℕ
three_of v = choose (known v) v X

-- where the value stands in a block whose row is a and whose place in it is b, each 0, 1 or X
abbrev pub place_of : ℕ → ℕ → ℕ → ℕ
place_of block a b = 9 * block + 3 * a + b

-- the look-up in a table of blocks, where pin s sees v s; beyond its end everything is X
abbrev pub value_in : List ℕ → ℕ → (ℕ → ℕ) → ℕ
value_in values block v = get_or values (place_of block (three_of (v 1)) (three_of (v 2))) X

-- by its kind a gate goes to one of two tables: the selector to its own, at the block of what its select sees, every other kind to `values`, at the block of
-- the kind. These are `gate_table`; what other tables would give is asked in simulate/specs/Unused.antt
abbrev pub value_by : List ℕ → ℕ → (ℕ → ℕ) → ℕ
value_by values kind v = choose (eqb kind selector) (value_in selector_table (three_of (v 3)) v) (value_in values kind v)

-- the value of a gate, by its kind and the value v s that each pin s sees
unfoldable pub gate_of : ℕ → (ℕ → ℕ) → ℕ
gate_of kind v = value_by gate_table kind v

-- a at pin 1, b at pin 2, c at pin 3
abbrev pub at_pins : {A : Type 0} → A → A → A → ℕ → A
at_pins a b c s = choose (eqb s 1) a (choose (eqb s 2) b c)

-- y is as x where x is known: X may become anything
abbrev pub Refines : ℕ → ℕ → Type 0
Refines x y = x < 2 → y ≡ x

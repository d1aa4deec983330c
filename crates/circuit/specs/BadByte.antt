-- The place of refusal 2, a byte of the file: of the first line that breaks its layout, the first byte of the first field that breaks its rule.
-- As a function, and in words. They are proved equivalent.
-- Assumes nothing.
use Rattle.std.specs.Prelude.{◌≡◌, List, ℕ, zero, suc, ◌+◌, ◌*◌, ◌<◌}
use Rattle.ground.specs.Below.{first_not}
use Rattle.circuit.specs.Record.{lines_of}
use Rattle.circuit.specs.Layout.{field_ok, line_ok, Field, Layout}

-- where a field begins in its record: the kind at byte 0, the output byte at 1, pin s at 2 s
abbrev pub first_byte : ℕ → ℕ
first_byte zero = 0
first_byte (suc zero) = 1
first_byte (suc (suc s)) = 2 * suc s

-- ---- as a function

-- the first field of line k that breaks its rule, or 5
abbrev pub bad_field : List ℕ → ℕ → ℕ
bad_field c k = first_not 5 (field_ok c k)

-- the first line that breaks its layout, or their number
abbrev pub bad_line : List ℕ → ℕ
bad_line c = first_not (lines_of c) (line_ok c)

abbrev pub bad_byte : List ℕ → ℕ
bad_byte c = 8 * bad_line c + first_byte (bad_field c (bad_line c))

-- ---- in words

-- byte b is that of field f of line k
pub record BadFieldAt (c : List ℕ) (k f b : ℕ) : Type 0 where
  -- line k is the lowest that breaks its layout
  pub line : k < lines_of c
  pub breaks : Layout c k → ⊥
  pub lower : (j : ℕ) → j < k → Layout c j
  -- field f of it breaks its rule, and no earlier field does
  pub field : f < 5
  pub broken : Field c k f → ⊥
  pub earlier : (g : ℕ) → g < f → Field c k g
  -- the place is 8 k plus the field's first byte
  pub place : b ≡ 8 * k + first_byte f

-- What the functions of the gates owe each other; no reader of the promises needs it.
-- Assumes nothing.
use Rattle.std.specs.Prelude.{ℕ, zero, suc, ◌+◌, ◌*◌, ◌/◌, ◌%◌, ◌^◌, ◌≤◌, get_or}
use Rattle.gates.specs.Gate.{X, last_kind, gate_table, three_of, place_of}

-- where the kind has a rule, its first two pins see 0, 1 or X
abbrev pub SourcesSmall : ℕ → ℕ → ℕ → Type 0
SourcesSmall kind a b = kind ≤ last_kind → (a ≤ 2) × (b ≤ 2)

-- the number with these n hexadecimal digits, the first one highest
abbrev pub hex_of : (ℕ → ℕ) → ℕ → ℕ
hex_of digit zero = 0
hex_of digit (suc n) = 16 * hex_of digit n + digit n

-- the values of a kind as one number, in four rows of four: those of 0, of 1, of X, and once more of X
unfoldable pub block_of : ℕ → ℕ
block_of kind = hex_of (λ p. get_or gate_table (place_of kind (three_of (p / 4)) (three_of (p % 4))) X) 16

-- the digit in this row and place, as it is shifted out of the 64 bits of such a number
unfoldable pub digit_of : ℕ → ℕ → ℕ → ℕ
digit_of number row place = number * 2 ^ ((16 * row + 4 * place) % 64) % 2 ^ 64 / 2 ^ 60

-- A circuit: a list of bytes, eight to a line. What each line's record says.
-- Assumes nothing.
use Rattle.std.specs.Prelude.{Bool, List, ℕ, ◌+◌, ◌*◌, ◌≤◌, ◌/◌, eqb, length, get_or}
use Rattle.ground.specs.Below.{count_below}
use Rattle.little.specs.Little.{pair_at}

abbrev pub lines_of : List ℕ → ℕ
lines_of c = length c / 8

-- byte 0: the kind
abbrev pub kind_at : List ℕ → ℕ → ℕ
kind_at c k = get_or c (8 * k) 0

-- byte 1: 1 if the line is an output
abbrev pub out_at : List ℕ → ℕ → ℕ
out_at c k = get_or c (8 * k + 1) 0

-- the source of pin s of line k: bytes 2 and 3 of pin 1, 4 and 5 of pin 2, 6 and 7 of pin 3
abbrev pub pin_at : List ℕ → ℕ → ℕ → ℕ
pin_at c k s = pair_at c (8 * k + 2 * s)

abbrev pub is_input : List ℕ → ℕ → Bool
is_input c k = eqb (kind_at c k) 0

abbrev pub is_output : List ℕ → ℕ → Bool
is_output c k = eqb (out_at c k) 1

-- how many of the lines below k are inputs, or outputs: in line order, the number of the input or output at line k
abbrev pub inputs_before : List ℕ → ℕ → ℕ
inputs_before c k = count_below k (is_input c)

abbrev pub outputs_before : List ℕ → ℕ → ℕ
outputs_before c k = count_below k (is_output c)

abbrev pub inputs_of : List ℕ → ℕ
inputs_of c = inputs_before c (lines_of c)

abbrev pub outputs_of : List ℕ → ℕ
outputs_of c = outputs_before c (lines_of c)

-- a whole record stands at place k of these bytes
pub record Inside (s : List ℕ) (k : ℕ) : Type 0 where
  pub inside : 8 * k + 8 ≤ length s

-- State records, four bytes each: a data line, which is read when the clock ticks, and a state line, an input that has what was read through the next step.
-- Assumes nothing.
use Rattle.std.specs.Prelude.{Bool, not, ◌&&◌, List, ℕ, ◌+◌, ◌*◌, ◌/◌, eqb, ltb, length}
use Rattle.ground.specs.Below.{any_below, count_below, first_not}
use Rattle.little.specs.Little.{pair_at}
use Rattle.circuit.specs.Record.{lines_of, is_input}

abbrev pub state_count : List ℕ → ℕ
state_count st = length st / 4

-- bytes 0 and 1 the data line, bytes 2 and 3 the state line
abbrev pub data_line : List ℕ → ℕ → ℕ
data_line st r = pair_at st (4 * r)

abbrev pub state_line : List ℕ → ℕ → ℕ
state_line st r = pair_at st (4 * r + 2)

-- the first record whose state line is m, or their number
unfoldable pub state_record : List ℕ → ℕ → ℕ
state_record st m = first_not (state_count st) (λ r. not (eqb (state_line st r) m))

-- line m is a state line; and its data line
unfoldable pub is_state : List ℕ → ℕ → Bool
is_state st m = ltb (state_record st m) (state_count st)

unfoldable pub data_of : List ℕ → ℕ → ℕ
data_of st m = data_line st (state_record st m)

-- line m is a data line
unfoldable pub is_data : List ℕ → ℕ → Bool
is_data st m = any_below (state_count st) (λ r. eqb (data_line st r) m)

-- line m is an input and no state line: it has a value of its own in every step
unfoldable pub is_free : List ℕ → List ℕ → ℕ → Bool
is_free c st m = is_input c m && not (is_state st m)

-- how many of the lines below m
abbrev pub free_before : List ℕ → List ℕ → ℕ → ℕ
free_before c st m = count_below m (is_free c st)

abbrev pub free_of : List ℕ → List ℕ → ℕ
free_of c st = free_before c st (lines_of c)

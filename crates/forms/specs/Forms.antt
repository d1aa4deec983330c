-- What the lines say, by their forms `fs`.
-- Assumes nothing.
use Rattle.std.specs.Prelude.{Bool, ◌||◌, List, ℕ, eqb, leb, length, get_or}
use Rattle.ground.specs.Below.{count_below}

-- ---- what line k is

abbrev pub says_input : List ℕ → ℕ → Bool
says_input fs k = eqb (get_or fs k 0) 1

abbrev pub says_output : List ℕ → ℕ → Bool
says_output fs k = eqb (get_or fs k 0) 2

abbrev pub says_gate : List ℕ → ℕ → Bool
says_gate fs k = leb 3 (get_or fs k 0)

abbrev pub defines : List ℕ → ℕ → Bool
defines fs k = says_input fs k || says_gate fs k

-- ---- how many inputs and gates stand before line k, and in all

abbrev pub inputs_to : List ℕ → ℕ → ℕ
inputs_to fs k = count_below k (says_input fs)

abbrev pub gates_to : List ℕ → ℕ → ℕ
gates_to fs k = count_below k (says_gate fs)

abbrev pub inputs_in : List ℕ → ℕ
inputs_in fs = inputs_to fs (length fs)

abbrev pub gates_in : List ℕ → ℕ
gates_in fs = gates_to fs (length fs)

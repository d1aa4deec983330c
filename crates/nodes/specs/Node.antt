-- A node of the search: a pattern, one byte an input, 2 for X. How many X it has, and the first of them.
-- Assumes nothing.
use Rattle.std.specs.Prelude.{◌≡◌, Bool, not, List, ℕ, ◌≤◌, ◌<◌, eqb, length, get_or, set, replicate}
use Rattle.ground.specs.Below.{count_below, first_not}

abbrev pub Node : Type 0
Node = List ℕ

-- of n inputs: a byte for each, none above 2
pub record IsNode (n : ℕ) (s : Node) : Type 0 where
  pub size : length s ≡ n
  pub bytes : (i : ℕ) → i < n → get_or s i 0 ≤ 2

-- the search starts at all X
abbrev pub start : ℕ → Node
start n = replicate n 2

abbrev pub is_x : Node → ℕ → Bool
is_x s i = eqb (get_or s i 0) 2

abbrev pub is_set : Node → ℕ → Bool
is_set s i = not (is_x s i)

-- how many inputs are X
unfoldable pub count_x : Node → ℕ
count_x s = count_below (length s) (is_x s)

-- the place of the first X, or the length
unfoldable pub first_x : Node → ℕ
first_x s = first_not (length s) (is_set s)

-- the node with its first X set to v
unfoldable pub fill : ℕ → Node → Node
fill v s = set s (first_x s) v

-- in words: the first X stands at place `at`
pub record FirstX (s : Node) (at : ℕ) : Type 0 where
  pub inside : at < length s
  pub is : get_or s at 0 ≡ 2
  pub below : (i : ℕ) → i < at → get_or s i 0 ≡ 2 → ⊥

-- Bound, free and head lines of a circuit of n lines.
-- Assumes nothing.
use Rattle.std.specs.Prelude.{Bool, false, not, ◌&&◌, ◌||◌, List, ℕ, suc, eqb, get_or}
use Rattle.ground.specs.Below.{any_below, count_below}
use Rattle.ground.specs.Lists.{grow}
use Rattle.gates.specs.Gate.{pins_of}
use Rattle.circuit.specs.Record.{kind_at, pin_at}
use Rattle.reads.specs.Reads.{branches}

-- some pin of line k reads a line that passes the test
unfoldable pub some_pin : List ℕ → ℕ → (ℕ → Bool) → Bool
some_pin c k t = any_below (pins_of (kind_at c k)) (λ s. t (pin_at c k (suc s)))

-- line k is bound, where bs says which lines below it are: some pin of it reads a line that branches or is bound
unfoldable pub bound_in : List ℕ → ℕ → List Bool → ℕ → Bool
bound_in c n bs k = some_pin c k (λ j. branches c n j || get_or bs j false)

unfoldable pub bound : List ℕ → ℕ → ℕ → Bool
bound c n k = get_or (grow (bound_in c n) n) k false

abbrev pub free : List ℕ → ℕ → ℕ → Bool
free c n k = not (bound c n k)

-- some bound line reads line k
unfoldable pub read_by_bound : List ℕ → ℕ → ℕ → Bool
read_by_bound c n k = any_below n (λ j. bound c n j && some_pin c j (λ i. eqb i k))

-- a head line: free, and read by a bound gate or itself branching
unfoldable pub head : List ℕ → ℕ → ℕ → Bool
head c n k = free c n k && (read_by_bound c n k || branches c n k)

-- how many head lines stand below line k: in line order, the number of the head line at line k
abbrev pub heads_before : List ℕ → ℕ → ℕ → ℕ
heads_before c n k = count_below k (head c n)

abbrev pub heads_of : List ℕ → ℕ → ℕ
heads_of c n = heads_before c n n

-- Counts of patterns, a cell each, for n faults: at 256 g + f for the pair f < g, how many tell the two apart; at 256 n + f for the fault f, how many
-- fail it.
-- Assumes nothing.
use Rattle.std.specs.Prelude.{◌≡◌, Bool, ◌&&◌, ◌||◌, List, ℕ, ◌+◌, ◌-◌, ◌*◌, ◌%◌, ◌<◌, eqb, leb, ltb, get_or}
use Rattle.ground.specs.Choose.{one}
use Rattle.ground.specs.Below.{any_below, count_below}
use Rattle.tables.specs.Entries.{entries_of}
use Rattle.needs.specs.Needs.{Patterns, detects}

-- a pattern's entries stand in the table t from `from` on. A row has n cells from `at` on; the pattern counts at its cell k where that fault's entry is `want`
unfoldable pub hit_row : List ℕ → ℕ → ℕ → ℕ → ℕ → ℕ → Bool
hit_row t from want at n k = leb at k && (ltb k (at + n) && eqb (get_or t (from + (k - at)) 0) want)

-- in the row of fault g's pairs: where its own entry is known, the other's is the opposite
unfoldable pub hit_pair : List ℕ → ℕ → ℕ → ℕ → Bool
hit_pair t from k g = leb (get_or t (from + g) 0) 1 && hit_row t from (1 - get_or t (from + g) 0) (256 * g) g k

-- at cell k, of n faults
unfoldable pub hit : List ℕ → ℕ → ℕ → ℕ → Bool
hit t from n k = any_below n (hit_pair t from k) || hit_row t from 1 (256 * n) n k

-- each cell counts the patterns of the set, and is a byte: of at most 256 patterns a count of 1 is still told from every other
pub record Counted (t : List ℕ) (F P : ℕ) (K : Patterns) (c : List ℕ) : Type 0 where
  pub cell : (k : ℕ) → get_or c k 0 ≡ count_below P (λ q. K q && hit t (q * F) F k) % 256

-- whether the set detects a fault is kept apart, 1 or 0
pub record Seen (t : List ℕ) (F P : ℕ) (K : Patterns) (s : List ℕ) : Type 0 where
  pub fault : (f : ℕ) → f < F → get_or s f 0 ≡ one (detects (entries_of F t) P K f)

-- Compaction, in document 01's order: entries, detected, told apart, the needs of a table, and the process that drops patterns.
-- Assumes nothing.
use Rattle.std.specs.Prelude.{Bool, true, not, ◌&&◌, ◌||◌, List, ℕ, zero, suc, eqb, get_or, set, replicate}
use Rattle.ground.specs.Choose.{choose}
use Rattle.ground.specs.Below.{any_below}
use Rattle.tables.specs.Entries.{pass, fail, Entries}

-- a set of patterns
abbrev pub Patterns : Type 0
Patterns = ℕ → Bool

abbrev pub whole : Patterns
whole p = true

abbrev pub fails : ℕ → Bool
fails e = eqb e fail

abbrev pub passes : ℕ → Bool
passes e = eqb e pass

-- one entry is fail and the other is pass: unknown tells nothing
unfoldable pub tells : ℕ → ℕ → Bool
tells a b = (fails a && passes b) || (passes a && fails b)

-- of P patterns, some entry of the fault in the set is fail
abbrev pub detects : Entries → ℕ → Patterns → ℕ → Bool
detects E P K f = any_below P (λ p. K p && fails (E p f))

-- some pattern of the set tells the two faults apart
abbrev pub apart : Entries → ℕ → Patterns → ℕ → ℕ → Bool
apart E P K f g = any_below P (λ p. K p && tells (E p f) (E p g))

-- ---- the needs, taken from the whole table, by what a set of patterns loses of them

-- a detected fault that does not stay detected
unfoldable pub lost : Entries → ℕ → Patterns → ℕ → Bool
lost E P K f = detects E P whole f && not (detects E P K f)

-- two detected faults, told apart, that do not stay told apart
unfoldable pub lost_pair : Entries → ℕ → Patterns → ℕ → ℕ → Bool
lost_pair E P K f g = detects E P whole f && (detects E P whole g && (apart E P whole f g && not (apart E P K f g)))

-- some need of F faults, or of a pair f < g of them, is lost
unfoldable pub lacks : Entries → ℕ → ℕ → Patterns → Bool
lacks E F P K = any_below F (lost E P K) || any_below F (λ g. any_below g (λ f. lost_pair E P K f g))

abbrev pub meets : Entries → ℕ → ℕ → Patterns → Bool
meets E F P K = not (lacks E F P K)

-- ---- the process, on marks: 1 kept, 0 dropped

abbrev pub kept : List ℕ → Patterns
kept m p = eqb (get_or m p 0) 1

-- a pattern's turn: it is dropped exactly if those still in the set without it meet every need
unfoldable pub turn : Entries → ℕ → ℕ → List ℕ → ℕ → List ℕ
turn E F P m p = choose (meets E F P (kept (set m p 0))) (set m p 0) m

-- the turns of the first k patterns, from the last of them to the first
unfoldable pub turns : Entries → ℕ → ℕ → ℕ → List ℕ → List ℕ
turns E F P zero m = m
turns E F P (suc k) m = turns E F P k (turn E F P m k)

-- start with all patterns
unfoldable pub compacted : Entries → ℕ → ℕ → List ℕ
compacted E F P = turns E F P P (replicate P 1)

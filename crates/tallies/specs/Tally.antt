-- The tally of a set of patterns: for each pair of faults and each fault its count, and which faults are detected.
-- Assumes nothing.
use Rattle.std.specs.Prelude.{List, ℕ, eqb, get_or}
use Rattle.needs.specs.Needs.{Patterns}
use Rattle.counts.specs.Counted.{Counted, Seen}

-- the patterns that have this mark: those with 1 are kept, those with 0 are dropped
abbrev pub with_mark : ℕ → List ℕ → Patterns
with_mark v m p = eqb (get_or m p 0) v

pub record Tallied (t : List ℕ) (F P : ℕ) (K : Patterns) (c s : List ℕ) : Type 0 where
  pub counted : Counted t F P K c
  pub seen : Seen t F P K s

-- The state at the bench: the counts as at opening, a mark for each fault, and how many remain.
-- Assumes nothing.
use Rattle.std.specs.Prelude.{◌≡◌, Bool, not, ◌&&◌, ℕ, ◌≤◌, ◌<◌, eqb, length, get_or}
use Rattle.ground.specs.Below.{any_below, count_below}
use Rattle.tables.specs.Table.{in_range}
use Rattle.reports.specs.Marks.{marked, marks_of, no_mark}
use Rattle.suspects.specs.declared.Suspects.{Suspects}

-- of F faults and P patterns, where the faults of K remain
abbrev pub state_of : ℕ → ℕ → (ℕ → Bool) → Suspects
state_of F P K = record { marks = marks_of F K; faults = F; patterns = P; remaining = count_below F K }

-- fault f remains
abbrev pub remains_in : Suspects → ℕ → Bool
remains_in s f = marked s.marks f

-- s is such a state: as a test, and in words
unfoldable pub opened_ok : Suspects → Bool
opened_ok s =
    in_range s.faults
    && (in_range s.patterns
    && (not (any_below (length s.marks) (no_mark s.faults s.marks)) && eqb s.remaining (count_below s.faults (remains_in s))))

pub record Opened (s : Suspects) : Type 0 where
  pub some_fault : 1 ≤ s.faults
  pub few_faults : s.faults ≤ 256
  pub some_pattern : 1 ≤ s.patterns
  pub few_patterns : s.patterns ≤ 256
  pub marks_are : (f : ℕ) → f < s.faults → get_or s.marks f 0 ≤ 1
  pub rest : (f : ℕ) → s.faults ≤ f → get_or s.marks f 0 ≡ 0
  pub number : s.remaining ≡ count_below s.faults (remains_in s)

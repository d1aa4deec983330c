-- The state in an area that is lent: opening it, reporting to it, and reading its marks. The refusals are 10 for an area that is not of 288
-- bytes, then 22 for one that holds no opened state, and then those of the state.
-- Assumes nothing.
use Rattle.std.specs.Prelude.{◌≡◌, List, [], ◌∷◌, ◌++◌, ℕ, length, take, Result}
use Rattle.answers.specs.Rules.{Rule, refusal, unless}
use Rattle.answers.specs.Rules.Rule.{whole}
use Rattle.answers.specs.Lent.{exact}
use Rattle.answers.specs.Answer.{answered}
use Rattle.answers.specs.Area.{Numbers, success, in_numbers, told}
use Rattle.tables.specs.Table.{table_rules}
use Rattle.reports.specs.Reports.{Report}
use Rattle.suspects.specs.declared.Suspects.{Suspects}
use Rattle.suspects.specs.Promise.{Becomes, open_state, narrowed_state, report_rules}
use Rattle.suspects.specs.Sessions.{Course, Begun}
use Rattle.suspect_areas.specs.declared.Marked.{Marked}
use Rattle.suspect_areas.specs.Bytes.{bytes_of, state_in, held_ok, Held}
use Rattle.answers.specs.declared.Refusal.{Refusal}
use Rattle.answers.specs.declared.Reason.TheVariants.{NotOpened}

unfoldable pub size_rules : List ℕ → List Rule
size_rules a = exact 288 (length a) ∷ []

unfoldable pub held_area_rules : List ℕ → List Rule
held_area_rules a = whole NotOpened (held_ok a) (Held a) 0 ∷ []

abbrev pub area_rules : List ℕ → List Rule
area_rules a = size_rules a ++ held_area_rules a

-- ---- opening

abbrev pub open_area_rules : List ℕ → ℕ → ℕ → List ℕ → List Rule
open_area_rules a F P t = size_rules a ++ table_rules F P t

abbrev pub OpensArea : ℕ → ℕ → List ℕ → List ℕ → Result ℕ Refusal → List ℕ → Type 0
OpensArea F P t a = Becomes (open_area_rules a F P t) a (bytes_of (open_state F P)) F

-- ---- a report

-- the first rule of the state, 22, is kept wherever those of the area are
abbrev pub report_area_rules : List ℕ → Report → List Rule
report_area_rules a q = area_rules a ++ report_rules (state_in a) q.faults q.patterns q.table q.pattern

abbrev pub ReportsArea : List ℕ → Report → Result ℕ Refusal → List ℕ → Type 0
ReportsArea a q = Becomes (report_area_rules a q) a (bytes_of (narrowed_state (state_in a) q)) (narrowed_state (state_in a) q).remaining

-- ---- reading the marks

-- refusal 10: one mark a fault as at opening
unfoldable pub room_rules : Suspects → List ℕ → List Rule
room_rules s m = exact s.faults (length m) ∷ []

abbrev pub marks_area_rules : List ℕ → List ℕ → List Rule
marks_area_rules a m = area_rules a ++ room_rules (state_in a) m

-- so many remain of so many faults, by so many patterns
abbrev pub marked_are : ℕ → ℕ → ℕ → Marked
marked_are remaining faults patterns = record { remaining = remaining; faults = faults; patterns = patterns }

-- the paper's number and values for each case
abbrev pub marks_numbers : Marked → Numbers
marks_numbers a = success a.remaining a.faults a.patterns

unfoldable pub marked_numbers : Result Marked Refusal → Numbers
marked_numbers = in_numbers marks_numbers

-- the marks m become m': those of the faults that there are
pub record ReadsMarks (a m : List ℕ) (r : Result Marked Refusal) (m' : List ℕ) : Type 0 where
  pub answer : r ≡ answered (refusal (marks_area_rules a m)) (marked_are (state_in a).remaining (state_in a).faults (state_in a).patterns)
  pub numbers : marked_numbers r ≡ told (refusal (marks_area_rules a m)) (success (state_in a).remaining (state_in a).faults (state_in a).patterns)
  pub marks : m' ≡ unless (refusal (marks_area_rules a m)) m (take (state_in a).faults (state_in a).marks)

-- ---- a whole session in an area, of F faults and P patterns

abbrev pub AreaSession : ℕ → ℕ → List Report → List ℕ → Type 0
AreaSession F P = Course (Begun (OpensArea F P)) ReportsArea

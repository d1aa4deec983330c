-- A whole session: a state is opened and reports are made to it, one after the other. Those that are refused leave it, and do not count.
-- Assumes nothing.
use Rattle.std.specs.Prelude.{◌≡◌, List, [], ◌∷◌, ◌++◌, ℕ, Ok, Err, Result}
use Rattle.reports.specs.Reports.{Report}
use Rattle.suspects.specs.declared.Suspects.{Suspects}
use Rattle.suspects.specs.Promise.{Opens, Reports}
use Rattle.answers.specs.declared.Refusal.{Refusal}
use Rattle.answers.specs.declared.Reason.{Reason}

-- of memory that holds a state, by what an opening leaves and what a report does: it has come to m, and took the reports rs, each with the table
-- that was lent with it
pub data Course {M : Type 0} (Begins : M → Type 0) (Tells : M → Report → Result ℕ Refusal → M → Type 0) : List Report → M → Type 0 where
  begun : {m : M} → Begins m → Course Begins Tells [] m
  took : {rs : List Report} {m m' : M} (q : Report) {r : Result ℕ Refusal} {n : ℕ}
      → Course Begins Tells rs m → Tells m q r m' → r ≡ Ok n → Course Begins Tells (rs ++ (q ∷ [])) m'
  refused : {rs : List Report} {m m' : M} (q : Report) {r : Result ℕ Refusal} {reason : Reason} {place : ℕ}
      → Course Begins Tells rs m → Tells m q r m' → r ≡ Err (reason, place) → Course Begins Tells rs m'

-- opened with some table, whatever was held before
pub record Begun {M : Type 0} (Opening : List ℕ → M → Result ℕ Refusal → M → Type 0) (m : M) : Type 0 where
  pub table : List ℕ
  pub before : M
  pub answer : Result ℕ Refusal
  pub remaining : ℕ
  pub opens : Opening table before answer m
  pub not_refused : answer ≡ Ok remaining

-- a session of F faults and P patterns
abbrev pub Session : ℕ → ℕ → List Report → Suspects → Type 0
Session F P = Course (Begun (Opens F P)) Reports

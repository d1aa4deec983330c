-- What opening a state and reporting to it promise: the answer, and the state afterwards.
-- Assumes nothing.
use Rattle.std.specs.Prelude.{◌≡◌, true, not, ◌&&◌, List, [], ◌∷◌, ◌++◌, ℕ, ◌<◌, eqb, ltb, Result}
use Rattle.answers.specs.Rules.{Rule, refusal, unless}
use Rattle.answers.specs.Rules.Rule.{whole}
use Rattle.answers.specs.Answer.{answered}
use Rattle.answers.specs.Area.{Numbers, success, in_numbers, told}
use Rattle.tables.specs.Table.{table_rules}
use Rattle.reports.specs.Reports.{Report, speaks_against}
use Rattle.suspects.specs.declared.Suspects.{Suspects}
use Rattle.suspects.specs.State.{state_of, remains_in, opened_ok, Opened}
use Rattle.answers.specs.declared.Refusal.{Refusal}
use Rattle.answers.specs.declared.Reason.TheVariants.{TableSize, NoPattern, NotOpened}

-- the paper's number and values for each case
unfoldable pub narrowed_numbers : Result ℕ Refusal → Numbers
narrowed_numbers = in_numbers (λ n. success n 0 0)

-- of a state that is held in m: it is `new` afterwards, unless a rule refuses, and so many remain
pub record Becomes {M : Type 0} (rules : List Rule) (m new : M) (remaining : ℕ) (r : Result ℕ Refusal) (m' : M) : Type 0 where
  pub answer : r ≡ answered (refusal rules) remaining
  pub numbers : narrowed_numbers r ≡ told (refusal rules) (success remaining 0 0)
  pub state : m' ≡ unless (refusal rules) m new

-- ---- opening

-- all faults remain
abbrev pub open_state : ℕ → ℕ → Suspects
open_state F P = state_of F P (λ f. true)

abbrev pub Opens : ℕ → ℕ → List ℕ → Suspects → Result ℕ Refusal → Suspects → Type 0
Opens F P t s = Becomes (table_rules F P t) s (open_state F P) F

-- ---- a report

-- refusal 22: the state was never opened, or is damaged
abbrev pub opened_rule : Suspects → Rule
opened_rule s = whole NotOpened (opened_ok s) (Opened s) 0

-- refusal 12: the counts F and P are those as at opening
abbrev pub counts_rule : Suspects → ℕ → ℕ → Rule
counts_rule s F P = whole TableSize (eqb F s.faults && eqb P s.patterns) ((F ≡ s.faults) × (P ≡ s.patterns)) 0

-- what is asked of the state, and then of what is lent with the report: the table, and refusal 17, there is a pattern p
unfoldable pub held_rules : Suspects → ℕ → ℕ → List Rule
held_rules s F P = opened_rule s ∷ counts_rule s F P ∷ []

unfoldable pub pattern_rules : ℕ → ℕ → List Rule
pattern_rules P p = whole NoPattern (ltb p P) (p < P) 0 ∷ []

abbrev pub given_rules : ℕ → ℕ → List ℕ → ℕ → List Rule
given_rules F P t p = table_rules F P t ++ pattern_rules P p

abbrev pub report_rules : Suspects → ℕ → ℕ → List ℕ → ℕ → List Rule
report_rules s F P t p = held_rules s F P ++ given_rules F P t p

-- the faults that remained, without those that the report speaks against
abbrev pub narrowed_state : Suspects → Report → Suspects
narrowed_state s q = state_of s.faults s.patterns (λ f. remains_in s f && not (speaks_against q f))

abbrev pub Reports : Suspects → Report → Result ℕ Refusal → Suspects → Type 0
Reports s q = Becomes (report_rules s q.faults q.patterns q.table q.pattern) s (narrowed_state s q) (narrowed_state s q).remaining

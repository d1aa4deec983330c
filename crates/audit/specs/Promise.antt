-- The audit of a kept list: its refusals are those of a table and its marks, 12, 13, then 10; its answer is the finding. All that is lent is read alone.
-- Assumes nothing.
use Rattle.std.specs.Prelude.{◌≡◌, List, ℕ, Result}
use Rattle.answers.specs.declared.Refusal.{Refusal}
use Rattle.answers.specs.Rules.{refusal}
use Rattle.answers.specs.Answer.{answered}
use Rattle.answers.specs.Area.{Numbers, in_numbers, told}
use Rattle.tables.specs.Entries.{entries_of}
use Rattle.tables.specs.Marks.{kept_rules}
use Rattle.findings.specs.declared.Finding.{Finding}
use Rattle.findings.specs.Findings.{finding_of, finding_numbers}

-- the paper's number and values for each case
unfoldable pub audited_numbers : Result Finding Refusal → Numbers
audited_numbers = in_numbers finding_numbers

-- the promise, whatever the bytes of the table t and the marks m: the answer, its number and values
pub record Audits (F P : ℕ) (t m : List ℕ) (r : Result Finding Refusal) : Type 0 where
  pub answer : r ≡ answered (refusal (kept_rules F P t m)) (finding_of (entries_of F t) F P m)
  pub numbers : audited_numbers r ≡ told (refusal (kept_rules F P t m)) (finding_numbers (finding_of (entries_of F t) F P m))

-- Part 3, the compactor: its refusals, 12 and 13 of the table and then 10 of the marks, and the marks after it.
-- Assumes nothing.
use Rattle.std.specs.Prelude.{◌≡◌, List, ℕ}
use Rattle.answers.specs.Rules.{refusal, unless}
use Rattle.answers.specs.Area.{told, done}
use Rattle.answers.specs.Rules.{Ruling}
use Rattle.tables.specs.Entries.{entries_of}
use Rattle.tables.specs.Marks.{kept_rules}
use Rattle.needs.specs.Needs.{compacted}

-- the promise, whatever the bytes, where m was lent and r and m' come back: the answer, its number and values, and every mark
pub record Compacts (F P : ℕ) (t m : List ℕ) (r : Ruling) (m' : List ℕ) : Type 0 where
  pub answer : r ≡ refusal (kept_rules F P t m)
  pub numbers : told r done ≡ told (refusal (kept_rules F P t m)) done
  pub marks : m' ≡ unless (refusal (kept_rules F P t m)) m (compacted (entries_of F t) F P)

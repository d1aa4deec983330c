-- What the functions of the entry owe each other and their callers; no reader of the promises needs it.
-- Assumes nothing.
use Rattle.std.specs.Prelude.{◌≡◌, Bool, true, false, not, ◌&&◌, ◌||◌, List, ℕ, ◌+◌, ◌*◌, eqb, length, take}
use Rattle.ground.specs.Choose.{choose}
use Rattle.simulate.specs.Simulate.{Forcing}
use Rattle.simulate.specs.Work.{good_of, both_under}
use Rattle.simulate.specs.Owed.{AllSmall}
use Rattle.tables.specs.Entries.{pass, fail, unknown}
use Rattle.entry.specs.Entry.{Test, differ, agree, as_expected, entry_under}

-- what one line says: fail, it is an output and its values differ; pass, it is none or its values pass the test; unknown, neither
unfoldable pub status_by : Test → ℕ → ℕ → ℕ → ℕ
status_by t out a b = choose (eqb out 1 && differ a b) fail (choose (not (eqb out 1) || t a b) pass unknown)

-- the test that every output must pass, with or without masks
abbrev pub output_test : Bool → Test
output_test true = as_expected
output_test false = agree

-- pass so far, and what a line says that does not differ
unfoldable pub joined_of : ℕ → ℕ → ℕ
joined_of r s = choose (eqb s pass) r unknown

pub record EntryRoom (c : List ℕ) (n work : ℕ) : Type 0 where
  pub circuit : length c ≡ 8 * n
  pub two : work ≡ n + n

-- the entry of the pattern p under a forcing, and the work memory that it was read from
pub record EntryRead (f : Forcing) (c p : List ℕ) (n : ℕ) (work : List ℕ) (r : ℕ) : Type 0 where
  pub entry_is : r ≡ entry_under f c p n
  pub work_is : work ≡ both_under f c p n

-- where the first half of w has the good values, under whatever pattern of 0, 1 and X
abbrev pub FaultEntryDone : Forcing → List ℕ → ℕ → List ℕ → List ℕ → ℕ → Type 0
FaultEntryDone f c n w w' r = (p : List ℕ) → AllSmall p → take n w ≡ good_of c p n → EntryRead f c p n w' r

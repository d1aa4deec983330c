-- From the two halves of the work memory to what good and faulty values say.
-- Assumes nothing.
use mathlib.Core.Path.{◌≡◌, ◌∙◌}
use mathlib.Core.List.{List}
use Prim.Native.Nat.{ℕ}
use lib.ListN.{take, drop}
use Rattle.simulate.specs.Simulate.{Forcing, values_to}
use Rattle.simulate.specs.Work.{good_of, both_under}
use Rattle.simulate.specs.Owed.{ForcedValuesDone}
use Rattle.simulate.proofs.Work.{good_front, behind-good}
use Rattle.entry.specs.Entry.{Test, as_expected, entry_by, entry_under}
use Rattle.entry.specs.Owed.{FaultEntryDone}

-- with whatever test
pub of_halves : (t : Test) (f : Forcing) (c p : List ℕ) (n : ℕ) {w : List ℕ} {r : ℕ}
    → w ≡ both_under f c p n
    → r ≡ entry_by t c (take n w) (drop n w) n
    → r ≡ entry_by t c (good_of c p n) (values_to f c p n) n
of_halves t f c p n all e = e ∙ rw (all, good_front c p n (values_to f c p n), behind-good c p n (values_to f c p n))

-- with the dictionary's
pub entry_made : (f : Forcing) (c : List ℕ) (n : ℕ) (w w' : List ℕ) {r : ℕ}
    → ForcedValuesDone f c n w w'
    → r ≡ entry_by as_expected c (take n w') (drop n w') n
    → FaultEntryDone f c n w w' r
unfolding entry_under
entry_made f c n w w' adds e p small good =
    let all = adds p small good in record { entry_is = of_halves as_expected f c p n all e; work_is = all }

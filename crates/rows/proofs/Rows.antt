-- The loop of `fill_row`, as facts about lists.
-- Assumes nothing.
use mathlib.Core.Path.{◌≡◌, refl, sym, ap, ◌∙◌}
use mathlib.Core.List.{List, ◌++◌}
use Prim.Native.Nat.{ℕ, ◌+◌, ◌*◌, ◌-◌, ◌/◌, ◌≤◌, ◌<◌}
use native.Mathlib.Nat.{mul-div_right}
use native.Mathlib.Numerals.{add-one}
use native.Mathlib.Omega.{arith}
use lib.ListN.{length, take, drop, set, length-set, length-drop}
use lib.Seq.{take_all, take-suc-set}
use Rattle.ground.specs.Lists.{grow}
use Rattle.lists.specs.declared.Fault.{Fault}
use Rattle.lists.specs.Faults.{fault_count, fault_at}
use Rattle.simulate.specs.Simulate.{values_to}
use Rattle.simulate.specs.Work.{good_of, both_under}
use Rattle.simulate.specs.Owed.{AllSmall}
use Rattle.simulate.proofs.Work.{good_long, good_front, both-length}
use Rattle.entry.specs.Owed.{EntryRead, FaultEntryDone}
use Rattle.rows.specs.Table.{Forces, row_to_under}
use Rattle.rows.specs.Owed.{RowDone}

-- the first j entries are in the row, and the work memory holds the good values and those of the last fault looked at
pub record SoFar (forces : Forces) (c : List ℕ) (n : ℕ) (p fs : List ℕ) (width : ℕ) (row work : List ℕ) (j : ℕ) : Type 0 where
  pub at_most : j ≤ width
  pub long : length row ≡ width
  pub done : take j row ≡ row_to_under forces c n fs p j
  pub room : length work ≡ n + n
  pub good : take n work ≡ good_of c p n
  pub last : 1 ≤ j → work ≡ both_under (forces (fault_at fs (j - 1))) c p n

pub start : (forces : Forces) (c : List ℕ) (n : ℕ) (p fs row w : List ℕ) {work : List ℕ} → length w ≡ n + n → work ≡ good_of c p n ++ drop n w → SoFar forces c n p fs (length row) row work 0
unfolding grow
start forces c n p fs row w two e = record {
  at_most = omega arith;
  long = refl;
  done = refl;
  room = ap length e ∙ good_long c p n (drop n w) ∙ simp length-drop (omega arith);
  good = rw e (good_front c p n (drop n w));
  last = λ h. absurd (omega arith);
}

module _ {forces : Forces} {c : List ℕ} {n : ℕ} {p fs : List ℕ} {width : ℕ} {row work : List ℕ} {j : ℕ} (so : SoFar forces c n p fs width row work j) where
  pub more : {fault : Fault} {work' : List ℕ} {e : ℕ}
      → j < width
      → fault ≡ fault_at fs j
      → AllSmall p
      → FaultEntryDone (forces fault) c n work work' e
      → SoFar forces c n p fs width (set row j e) work' (j + 1)
  unfolding grow
  more {fault} {work'} {e} l is small looks =
      let k : EntryRead (forces (fault_at fs j)) c p n work' e = rw is at (looks p small so.good) in
      let back : j + 1 - 1 ≡ j = omega arith in
      record {
        at_most = omega arith;
        long = length-set row j e ∙ so.long;
        done = rw (add-one, take-suc-set row j e (omega (arith, so.long)), so.done, k.entry_is);
        room = ap length k.work_is ∙ both-length c p n (forces (fault_at fs j));
        good = rw k.work_is (good_front c p n (values_to (forces (fault_at fs j)) c p n));
        last = λ _. k.work_is ∙ ap (λ (x : ℕ). both_under (forces (fault_at fs x)) c p n) (sym back);
      }

  pub finished : width ≤ j → 1 ≤ width → length fs ≡ 8 * width → RowDone forces c n p fs row work
  finished l some size =
      let e : j ≡ width = omega (arith, so.at_most) in
      let f : fault_count fs ≡ width = ap (λ (x : ℕ). x / 8) size ∙ mul-div_right width (omega arith) in
      record {
        row_is = sym (take_all j row (omega (arith, so.long))) ∙ so.done ∙ ap (row_to_under forces c n fs p) (e ∙ sym f);
        work_is = so.last (omega arith) ∙ ap (λ (x : ℕ). both_under (forces (fault_at fs (x - 1))) c p n) (e ∙ sym f);
      }

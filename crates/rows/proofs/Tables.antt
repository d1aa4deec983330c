-- The loop of `fill_table`, as facts about lists.
-- Assumes nothing.
use mathlib.Core.Path.{◌≡◌, sym, ap, ◌∙◌}
use mathlib.Core.List.{List, ◌++◌, append_assoc}
use Prim.Native.Nat.{ℕ, ◌+◌, ◌*◌, ◌-◌, ◌≤◌, ◌<◌}
use native.Mathlib.Nat.{suc-mul, zero-mul, mul_comm}
use native.Mathlib.Numerals.{add-one}
use native.Mathlib.Omega.{arith}
use lib.ListN.{length, take, length-append, length-take, length-drop}
use lib.Seq.{take_at, take_all, length-take-le}
use Rattle.ground.proofs.Grow.{grow-length}
use Rattle.lists.specs.Faults.{fault_count}
use Rattle.lists.specs.Patterns.{pattern_count, pattern_at}
use Rattle.simulate.specs.Work.{both_under}
use Rattle.simulate.proofs.Work.{both-length}
use Rattle.rows.specs.Table.{Forces, row_under, table_to_under, table_under, last_fault, work_under}
use Rattle.rows.specs.Owed.{TableReady, PutRowDone, TableDone}
use Rattle.rows.proofs.Part.{still_ready, row_fits}

-- the first i rows are in the table, and the work memory holds what the last of them left
pub record SoFar (forces : Forces) (c : List ℕ) (n m : ℕ) (fs ps t w : List ℕ) (i : ℕ) : Type 0 where
  pub at_most : i ≤ pattern_count m ps
  pub long : length t ≡ fault_count fs * pattern_count m ps
  pub room : length w ≡ n + n
  pub done : take (i * fault_count fs) t ≡ table_to_under forces c n m fs ps i
  pub last : 1 ≤ i → w ≡ both_under (forces (last_fault fs)) c (pattern_at m ps (i - 1)) n

pub start : {forces : Forces} {c : List ℕ} {n m : ℕ} {fs ps : List ℕ} (t w : List ℕ) → TableReady 256 2 c n m fs ps (length t) (length w) → SoFar forces c n m fs ps t w 0
start {forces} {c} {n} {m} {fs} {ps} t w r = record {
  at_most = omega arith;
  long = r.entries;
  room = omega (arith, r.room);
  done = rw zero-mul;
  last = λ h. absurd (omega arith);
}

module _ {forces : Forces} {c : List ℕ} {n m : ℕ} {fs ps t w : List ℕ} {i : ℕ} (so : SoFar forces c n m fs ps t w i) where
  pub still : {x y : ℕ} → TableReady 256 2 c n m fs ps x y → TableReady 256 2 c n m fs ps (length t) (length w)
  still r = still_ready r so.long (omega (arith, so.room))

  pub more : {t' w' : List ℕ} → TableReady 256 2 c n m fs ps (length t) (length w) → i < pattern_count m ps → PutRowDone forces c n m fs ps i t t' w' → SoFar forces c n m fs ps t' w' (i + 1)
  more {t'} {w'} r l p =
      let k = fault_count fs in
      let row = row_under forces c n fs (pattern_at m ps i) in
      let fits = row_fits r l in
      let head : length (take (i * k) t) ≡ i * k = length-take-le (i * k) t (omega arith) in
      let front : length (take (i * k) t ++ row) ≡ i * k + k =
      length-append (take (i * k) t) row ∙ rw (head, grow-length) in
      let back : i + 1 - 1 ≡ i = omega arith in
      record {
        at_most = omega arith;
        long = ap length p.table_is ∙ simp (length-append, length-take, length-drop, grow-length) (omega (arith, so.long));
        room = ap length p.work_is ∙ both-length c (pattern_at m ps i) n (forces (last_fault fs));
        done =
            rw (add-one, suc-mul, p.table_is, ← append_assoc, take_at (take (i * k) t ++ row) _ (i * k + k) front, so.done);
        last = λ _. p.work_is ∙ ap (λ (x : ℕ). both_under (forces (last_fault fs)) c (pattern_at m ps x) n) (sym back);
      }

  pub finished : pattern_count m ps ≤ i → 1 ≤ pattern_count m ps → TableDone forces c n m fs ps t w
  unfolding table_under work_under
  finished l some =
      let e : i ≡ pattern_count m ps = omega (arith, so.at_most) in
      record {
        table_is =
            sym (take_all (i * fault_count fs) t (rw e (omega (arith, so.long, mul_comm (pattern_count m ps) (fault_count fs)))))
            ∙ so.done
            ∙ ap (table_to_under forces c n m fs ps) e;
        work_is = so.last (omega arith) ∙ ap (λ (x : ℕ). both_under (forces (last_fault fs)) c (pattern_at m ps (x - 1)) n) e;
      }

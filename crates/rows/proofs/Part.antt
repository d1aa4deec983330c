-- Row i of the table, lent and filled.
-- Assumes nothing.
use mathlib.Core.Path.{◌≡◌, sym, ap, ◌∙◌}
use mathlib.Core.List.{List}
use Prim.Native.Nat.{ℕ, ◌+◌, ◌*◌, ◌-◌, ◌≤◌, ◌<◌}
use native.Mathlib.Omega.{arith}
use lib.ListN.{length}
use lib.Seq.{drop-drop}
use Rattle.lists.specs.Faults.{fault_count}
use Rattle.lists.specs.Patterns.{pattern_count}
use Rattle.lists.proofs.Patterns.{part_fits, pattern_fits}
use Rattle.lists.proofs.Parts.{lent, back, width_is, lent_long, lent_piece}
use Rattle.simulate.specs.Work.{both_under}
use Rattle.simulate.proofs.Small.{part_small}
use Rattle.rows.specs.Table.{Forces, last_fault}
use Rattle.rows.specs.Owed.{RowReady, RowDone, TableReady, PutRowDone}

-- other memory of the same sizes
pub still_ready : {most places : ℕ} {c : List ℕ} {n m : ℕ} {fs ps : List ℕ} {x y x' y' : ℕ}
    → TableReady most places c n m fs ps x y
    → x' ≡ fault_count fs * pattern_count m ps
    → y' ≡ places * n
    → TableReady most places c n m fs ps x' y'
still_ready r e q = rw (e ∙ sym r.entries, q ∙ sym r.room) r

pub row_fits : {c : List ℕ} {n m : ℕ} {fs ps : List ℕ} {x y i : ℕ} → TableReady 256 2 c n m fs ps x y → i < pattern_count m ps → i * fault_count fs + fault_count fs ≤ x
row_fits {c} {n} {m} {fs} {ps} {x} {y} {i} r h = omega (arith, part_fits i (pattern_count m ps) (fault_count fs) h, r.entries)

module _ (c : List ℕ) (n m : ℕ) (fs ps t : List ℕ) (i : ℕ) where
  pub row-ready : {y : ℕ} → TableReady 256 2 c n m fs ps (length t) y
      → i < pattern_count m ps
      → RowReady c n (lent (i * m) m ps) fs (length (lent (i * fault_count fs) (fault_count fs) t)) y
  row-ready r h =
      rw (lent_long (i * fault_count fs) (fault_count fs) t (row_fits r h))
      (record {
        well = rw (lent_long (i * m) m ps (pattern_fits ps r.patterns h)) r.well;
        faults = r.faults.multiple;
        small = part_small ps (i * m + m - i * m) (i * m) r.pattern_values;
        lines = r.fault_lines;
        values = r.fault_values;
        some = r.faults.some;
        two = omega (arith, r.room);
      })

  pub put : (forces : Forces) (row w' : List ℕ) → RowDone forces c n (lent (i * m) m ps) fs row w' → PutRowDone forces c n m fs ps i t (back (i * fault_count fs) (fault_count fs) t row) w'
  put forces row w' f =
      let p = lent_piece m ps i in
      record {
        table_is =
            rw (f.row_is, p, width_is (i * fault_count fs) (fault_count fs), drop-drop (fault_count fs) (i * fault_count fs) t);
        work_is = f.work_is ∙ ap (λ (x : List ℕ). both_under (forces (last_fault fs)) c x n) p;
      }

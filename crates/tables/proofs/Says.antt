-- The refusals of a table, and of a table with its marks: tests and words agree, and what is not refused has its sizes.
-- Assumes nothing.
use mathlib.Core.Path.{◌≡◌, ◌∙◌}
use mathlib.Core.Bool.{true}
use mathlib.Core.List.{List}
use Prim.Native.Nat.{ℕ, ◌*◌, ◌≤◌}
use lib.Dec.{leb}
use lib.ListN.{length}
use borrow.Author.Tests.{le-leb, leb-true, eq-eqb, eqb-true}
use Rattle.ground.proofs.Tests.{both, and_both}
use Rattle.answers.specs.Rules.{refusal, Same, AllSay, AllHold}
use Rattle.answers.proofs.Rules.{all_hold, fine, after_fine, both_fine, both_say}
use Rattle.answers.proofs.Same.{small_same, eq_same}
use Rattle.tables.specs.Table.{in_range, sizes_ok, Sized, table_rules}
use Rattle.tables.specs.Marks.{marks_rules, kept_rules}
use Rattle.std.specs.Prelude.{Ok}

pub in_range_lem : (n : ℕ) → in_range n ≡ true → (1 ≤ n) × (n ≤ 256)
in_range_lem n e = let w = both (leb 1 n) (leb n 256) e in (leb-true 1 n w.0, leb-true n 256 w.1)

pub range_ok : (n : ℕ) → 1 ≤ n → n ≤ 256 → in_range n ≡ true
range_ok n a b = and_both (le-leb 1 n a) (le-leb n 256 b)

module _ (F P bytes : ℕ) where
  is_sized : sizes_ok F P bytes ≡ true → Sized F P bytes
  unfolding sizes_ok
  is_sized e =
      let a = both (in_range F) _ e in
      let b = both (in_range P) _ a.1 in
      let f = in_range_lem F a.0 in
      let p = in_range_lem P b.0 in
      record { some_fault = f.0; few_faults = f.1; some_pattern = p.0; few_patterns = p.1; product = eqb-true bytes (F * P) b.1 }

  sized_ok : Sized F P bytes → sizes_ok F P bytes ≡ true
  unfolding sizes_ok
  sized_ok s =
      and_both (range_ok F s.some_fault s.few_faults) (and_both (range_ok P s.some_pattern s.few_patterns) (eq-eqb bytes (F * P) s.product))

  sized_same : Same (sizes_ok F P bytes) (Sized F P bytes)
  sized_same = record { holds = is_sized; tests = sized_ok }

pub table_says : (F P : ℕ) (t : List ℕ) → AllSay (table_rules F P t)
unfolding table_rules AllSay
table_says F P t = (sized_same F P (length t), ((λ i l. small_same t i), tt))

pub marks_say : (P : ℕ) (m : List ℕ) → AllSay (marks_rules P m)
unfolding marks_rules AllSay
marks_say P m = (eq_same (length m) P, tt)

pub kept_say : (F P : ℕ) (t m : List ℕ) → AllSay (kept_rules F P t m)
kept_say F P t m = both_say (table_rules F P t) (marks_rules P m) (table_says F P t) (marks_say P m)

-- ---- what is not refused

pub fine_sized : (F P : ℕ) (t : List ℕ) → refusal (table_rules F P t) ≡ Ok tt → Sized F P (length t)
unfolding table_rules AllHold
fine_sized F P t e = (all_hold (table_rules F P t) (table_says F P t) e).0

pub fine_kept : (F P : ℕ) (t m : List ℕ) → refusal (kept_rules F P t m) ≡ Ok tt → Sized F P (length t) × (length m ≡ P)
unfolding marks_rules AllHold
fine_kept F P t m e =
    let w = both_fine (table_rules F P t) (marks_rules P m) e in
    (fine_sized F P t w.0, (all_hold (marks_rules P m) (marks_say P m) w.1).0)

-- and back, of the marks: those of the table's size break no rule that the table keeps
pub kept_fine : (F P : ℕ) (t m : List ℕ) → refusal (table_rules F P t) ≡ Ok tt → length m ≡ P → refusal (kept_rules F P t m) ≡ Ok tt
unfolding marks_rules AllHold
kept_fine F P t m e size = after_fine (table_rules F P t) (marks_rules P m) e ∙ fine (marks_rules P m) (marks_say P m) (size, tt)

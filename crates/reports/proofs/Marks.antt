-- The marks of a set of faults: what stands where, that they are marks, and that what is laid over zeros are these.
-- Assumes nothing.
use mathlib.Core.Path.{◌≡◌, ap, ◌∙◌}
use mathlib.Core.Logic.{⊎_elim}
use mathlib.Core.Bool.{Bool, true, false, not, ◌&&◌, and-false, and-true}
use mathlib.Core.List.{List, ◌++◌}
use Prim.Native.Nat.{ℕ, ◌+◌, ◌-◌, ◌≤◌, ◌<◌}
use native.Mathlib.Omega.{arith}
use lib.Dec.{eqb, ltb}
use lib.ListN.{length, get_or, replicate, length-append, get_or-append, get_or-eq_default}
use lib.Seq.{get_or-append-add}
use borrow.Author.Tests.{le-ltb, ltb-false}
use Rattle.ground.specs.Choose.{choose, one}
use Rattle.ground.specs.Below.{any_below, count_below}
use Rattle.ground.specs.Lists.{table}
use Rattle.ground.specs.Put.{laid_on}
use Rattle.ground.proofs.Tests.{either, one-is, bit_one}
use Rattle.ground.proofs.Below.{none_any, not_any}
use Rattle.ground.proofs.Counting.{count_same}
use Rattle.ground.proofs.Filled.{drop-replicate, filled-length, filled_at}
use Rattle.ground.proofs.Grow.{grow-same, table-length, table_at}
use Rattle.reports.specs.Marks.{marked, marks_of, no_mark}
use Rattle.reports.specs.Owed.{narrowed}

module _ (F : ℕ) (K : ℕ → Bool) where
  -- over zeros
  pub laid_marks : laid_on (replicate 256 0) (table (λ f. one (K f)) F) ≡ marks_of F K
  unfolding marks_of
  laid_marks = rw (table-length (λ f. one (K f)) F, drop-replicate 256 F 0)

  pub marks_length : F ≤ 256 → length (marks_of F K) ≡ 256
  unfolding marks_of
  marks_length l = rw (length-append, table-length (λ f. one (K f)) F, filled-length (256 - F) 0) (omega arith)

  pub mark_at : (f : ℕ) → f < F → get_or (marks_of F K) f 0 ≡ one (K f)
  unfolding marks_of
  mark_at f l =
      let inside : f < length (table (λ i. one (K i)) F) = rw (table-length (λ i. one (K i)) F) l in
      get_or-append (table (λ i. one (K i)) F) _ 0 f inside ∙ table_at (λ i. one (K i)) F 0 f l

  pub mark_rest : (f : ℕ) → F ≤ f → get_or (marks_of F K) f 0 ≡ 0
  unfolding marks_of
  mark_rest f l =
      let front = table (λ i. one (K i)) F in
      let e : f ≡ length front + (f - F) = rw (table-length (λ i. one (K i)) F) (omega arith) in
      rw e (get_or-append-add front (replicate (256 - F) 0) (f - F) 0 ∙ filled_at (256 - F) 0 (f - F))

  pub is-marked : (f : ℕ) → f < F → marked (marks_of F K) f ≡ K f
  is-marked f l = rw (mark_at f l) (one-is (K f))

  pub count_marked : count_below F (marked (marks_of F K)) ≡ count_below F K
  count_marked = count_same F _ K is-marked

-- two sets that have the same faults have the same marks
pub same_marks : (F : ℕ) (K L : ℕ → Bool) → ((f : ℕ) → f < F → K f ≡ L f) → marks_of F K ≡ marks_of F L
unfolding marks_of
same_marks F K L same = ap (λ (v : List ℕ). v ++ replicate (256 - F) 0) (grow-same _ _ F (λ f l. ap one (same f l)))

-- ---- bytes that are marks

module _ (F : ℕ) (m : List ℕ) where
  -- also outside, where 0 is read
  pub all_marks : any_below (length m) (no_mark F m) ≡ false → (f : ℕ) → get_or m f 0 ≤ one (ltb f F)
  unfolding no_mark
  all_marks e f =
      ⊎_elim (λ l. ltb-false _ _ (not_any (length m) (no_mark F m) e f l)) (λ l. rw (get_or-eq_default m 0 l) (omega arith)) (either f (length m))

  pub marks_all : ((f : ℕ) → get_or m f 0 ≤ one (ltb f F)) → any_below (length m) (no_mark F m) ≡ false
  unfolding no_mark
  marks_all h = none_any (length m) (no_mark F m) (λ f l. le-ltb _ _ (h f))

-- ---- the marks after a report

-- a mark is left where it stood and the entry is not the bad one
left-mark : (m : ℕ) → m ≤ 1 → (bad : Bool) → choose bad 0 m ≡ one (eqb m 1 && not bad)
left-mark m l true = rw (and-false (eqb m 1))
left-mark m l false = rw (and-true (eqb m 1)) (bit_one m l)

pub narrowed-is : (m row : List ℕ) (bad : ℕ)
    → ((f : ℕ) → f < length row → get_or m f 0 ≤ 1)
    → narrowed m row bad ≡ table (λ f. one (marked m f && not (eqb (get_or row f 0) bad))) (length row)
narrowed-is m row bad small = grow-same _ _ (length row) (λ f l. left-mark (get_or m f 0) (small f l) (eqb (get_or row f 0) bad))

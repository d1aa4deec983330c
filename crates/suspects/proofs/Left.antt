-- What a report leaves: the row of its pattern, the marks that are laid, and their number.
-- Assumes nothing.
use mathlib.Core.Path.{◌≡◌, ap, ◌∙◌}
use mathlib.Core.Bool.{Bool, not, ◌&&◌}
use mathlib.Core.List.{List}
use Prim.Native.Nat.{ℕ, ◌+◌, ◌-◌, ◌*◌, ◌<◌}
use native.Mathlib.Omega.{arith}
use lib.Dec.{eqb}
use lib.ListN.{length, get_or, take, drop, replicate, length-drop}
use lib.Seq.{length-take-le}
use Rattle.ground.specs.Choose.{one}
use Rattle.ground.specs.Below.{count_below}
use Rattle.ground.specs.Lists.{table}
use Rattle.ground.specs.Put.{laid_on}
use Rattle.ground.proofs.Grow.{grow-same}
use Rattle.tables.specs.Table.{Sized}
use Rattle.tables.proofs.Rows.{row_fits, row-entry}
use Rattle.reports.specs.Reports.{report_of, against, speaks_against}
use Rattle.reports.specs.Marks.{marked, marks_of}
use Rattle.reports.specs.Owed.{narrowed}
use Rattle.reports.proofs.Marks.{laid_marks, count_marked, narrowed-is}
use Rattle.suspects.specs.declared.Suspects.{Suspects}
use Rattle.suspects.specs.State.{remains_in, Opened}

-- the part of the table that is lent for pattern p
abbrev row : ℕ → ℕ → List ℕ → List ℕ
row F p t = take (p * F + F - p * F) (drop (p * F) t)

pub row-length : {F P p : ℕ} (t : List ℕ) → Sized F P (length t) → p < P → length (row F p t) ≡ F
row-length {F} {P} {p} t sized inside =
    let size : p * F + F - p * F ≡ F = omega arith in
    let fits = row_fits sized inside in
    rw size (length-take-le F (drop (p * F) t) (rw length-drop (omega (arith, fits.0))))

row_at : (F p : ℕ) (t : List ℕ) (f : ℕ) → f < F → get_or (row F p t) f 0 ≡ get_or t (p * F + f) 0
row_at F p t f l = let size : p * F + F - p * F ≡ F = omega arith in rw size (row-entry t (p * F) F f l)

-- the faults that remained and that the report does not speak against
abbrev left : Suspects → List ℕ → ℕ → Bool → ℕ → Bool
left s t p failed f = remains_in s f && not (speaks_against (report_of s.faults s.patterns t p failed) f)

module _ (s : Suspects) (t : List ℕ) (p : ℕ) (failed : Bool) where
  pub left_marks : {bad : ℕ} → Opened s → Sized s.faults s.patterns (length t) → p < s.patterns → bad ≡ against failed
      → laid_on (replicate 256 0) (narrowed s.marks (row s.faults p t) bad) ≡ marks_of s.faults (left s t p failed)
  unfolding speaks_against
  left_marks {bad} o sized inside is =
      let long = row-length t sized inside in
      let marks : narrowed s.marks (row s.faults p t) bad ≡ table (λ f. one (left s t p failed f)) s.faults =
      narrowed-is s.marks (row s.faults p t) bad (λ f l. o.marks_are f (rw (← long) l))
      ∙ ap (table (λ f. one (marked s.marks f && not (eqb (get_or (row s.faults p t) f 0) bad)))) long
      ∙ grow-same _ _ s.faults (λ f l. rw (is, row_at s.faults p t f l)) in
      ap (λ (v : List ℕ). laid_on (replicate 256 0) v) marks ∙ laid_marks s.faults (left s t p failed)

  pub left-number : {m : List ℕ} {n : ℕ} → m ≡ marks_of s.faults (left s t p failed) → n ≡ count_below s.faults (marked m) → n ≡ count_below s.faults (left s t p failed)
  left-number {m} {n} e is = is ∙ rw e (count_marked s.faults (left s t p failed))

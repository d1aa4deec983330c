-- What the promises of the area say, and how the code comes to them.
-- Assumes nothing.
use mathlib.Core.Path.{◌≡◌, refl, sym, ap, ◌∙◌}
use mathlib.Core.List.{List}
use Prim.Native.Nat.{ℕ}
use lib.ListN.{take}
use Rattle.answers.specs.Rules.{Ruling}
use Rattle.answers.specs.Rules.{refusal, Applies, unless}
use Rattle.answers.specs.Answer.{answered}
use Rattle.answers.proofs.Rules.{after_refused, after_fine}
use Rattle.answers.proofs.Answer.{was_ruled, refused_applies, applies_refused}
use Rattle.reports.specs.Reports.{Report}
use Rattle.suspects.specs.declared.Suspects.{Suspects}
use Rattle.suspects.specs.State.{Opened}
use Rattle.suspects.specs.Promise.{Reports, narrowed_state, report_rules}
use Rattle.suspects.proofs.State.{state_opened}
use Rattle.suspects.proofs.Promise.{is_refused, told_so}
use Rattle.suspect_areas.specs.Bytes.{bytes_of, state_in}
use Rattle.suspect_areas.specs.declared.Marked.{Marked}
use Rattle.suspect_areas.specs.Promise.{area_rules, ReportsArea, marks_area_rules, marked_numbers, ReadsMarks, marked_are}
use Rattle.suspect_areas.proofs.Says.{fine_area, marks_area_says}
use Rattle.std.specs.Prelude.{Ok, Err, Result}
use Rattle.answers.specs.declared.Refusal.{Refusal}
use Rattle.answers.specs.declared.Reason.{Reason}

-- a report leaves an opened state opened
pub still_opened : {s s' : Suspects} (q : Report) {r : Result ℕ Refusal} → Opened s → Reports s q r s' → Opened s'
still_opened {s} {s'} q o p = rw p.state (go (refusal (report_rules s q.faults q.patterns q.table q.pattern)))
  where
    go : (v : Ruling) → Opened (unless v s (narrowed_state s q))
    go (Ok u) = state_opened s.faults s.patterns _ o.some_fault o.few_faults o.some_pattern o.few_patterns
    go (Err why) = o

module _ (a : List ℕ) (q : Report) where
  pub area_refused : {why : Refusal} → refusal (area_rules a) ≡ Err why → ReportsArea a q (Err why) a
  area_refused e = is_refused (after_refused (area_rules a) _ e)

  pub area_reported : {s s' : Suspects} {r : Result ℕ Refusal} {a' : List ℕ} → refusal (area_rules a) ≡ Ok tt → s ≡ state_in a → Reports s q r s' → a' ≡ bytes_of s' → ReportsArea a q r a'
  area_reported {s} {s'} {r} {a'} e is p laid =
      let rules = report_rules (state_in a) q.faults q.patterns q.table q.pattern in
      let new = narrowed_state (state_in a) q in
      let w : Reports (state_in a) q r s' = rw is at p in
      let same = sym (after_fine (area_rules a) rules e) in
      told_so
      (w.answer ∙ ap (λ (v : Ruling). answered v new.remaining) same)
      (laid ∙ ap bytes_of w.state ∙ go (refusal rules) ∙ ap (λ (v : Ruling). unless v a (bytes_of new)) same)
    where
      go : (v : Ruling) → bytes_of (unless v (state_in a) (narrowed_state (state_in a) q)) ≡ unless v a (bytes_of (narrowed_state (state_in a) q))
      go (Ok u) = refl
      go (Err why) = sym (fine_area a e).bytes

  -- where the state refuses, the area is left too
  pub report_refused : {s s' : Suspects} {why : Refusal} → refusal (area_rules a) ≡ Ok tt → s ≡ state_in a → Reports s q (Err why) s' → ReportsArea a q (Err why) a
  report_refused e is p =
      let rules = report_rules (state_in a) q.faults q.patterns q.table q.pattern in
      is_refused (after_fine (area_rules a) rules e ∙ was_ruled _ (rw is at p).answer refl)

-- ---- reading the marks

module _ {a m : List ℕ} where
  -- two results that the promise allows are equal
  pub one_reading : {r q : Result Marked Refusal} {m' m'' : List ℕ} → ReadsMarks a m r m' → ReadsMarks a m q m'' → (r ≡ q) × (m' ≡ m'')
  one_reading p q = (p.answer ∙ sym q.answer, p.marks ∙ sym q.marks)

  module _ {r : Result Marked Refusal} {m' : List ℕ} (p : ReadsMarks a m r m') (reason : Reason) (place : ℕ) where
    pub reading_applies : r ≡ Err (reason, place) → Applies (marks_area_rules a m) reason place
    reading_applies = refused_applies _ (marks_area_rules a m) (marks_area_says a m) p.answer reason place

    pub applies_reading : Applies (marks_area_rules a m) reason place → r ≡ Err (reason, place)
    applies_reading = applies_refused _ (marks_area_rules a m) (marks_area_says a m) p.answer reason place

-- ---- as the code comes to it

pub reading_refused : (a m : List ℕ) {why : Refusal} → refusal (marks_area_rules a m) ≡ Err why → ReadsMarks a m (Err why) m
unfolding marked_numbers
reading_refused a m e = record { answer = rw e; numbers = rw e; marks = rw e }

pub reading_fine : (a m : List ℕ) {s : Suspects} {m' : List ℕ} → refusal (marks_area_rules a m) ≡ Ok tt → s ≡ state_in a → m' ≡ take s.faults s.marks
    → ReadsMarks a m (Ok (marked_are s.remaining s.faults s.patterns)) m'
unfolding marked_numbers
reading_fine a m e is put =
    let says = ap (λ (x : Suspects). Ok (marked_are x.remaining x.faults x.patterns)) is in
    record { answer = rw e says; numbers = rw e (ap marked_numbers says); marks = rw e (put ∙ ap (λ (x : Suspects). take x.faults x.marks) is) }

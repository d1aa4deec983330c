-- The refusals of an opening and of a report in the paper's words.
-- Assumes nothing.
use mathlib.Core.Path.{◌≡◌, refl, ◌∙◌}
use mathlib.Core.Bool.{false, ◌&&◌}
use mathlib.Core.List.{List}
use Prim.Native.Nat.{ℕ, ◌<◌}
use lib.Dec.{eqb}
use lib.ListN.{length}
use Rattle.answers.specs.Rules.{Rule, said, refusal, Applies, AllSay, AllHold}
use Rattle.answers.proofs.Rules.{all_hold, fine, after_refused, after_fine, both_fine, both_say}
use Rattle.answers.proofs.Same.{lt_same, eq_same, and_same}
use Rattle.answers.proofs.Answer as answer
use Rattle.tables.specs.Table.{Sized, table_rules}
use Rattle.tables.proofs.Says.{table_says, fine_sized}
use Rattle.suspects.specs.declared.Suspects.{Suspects}
use Rattle.suspects.specs.State.{opened_ok, Opened}
use Rattle.suspects.specs.Promise.{pattern_rules, held_rules, given_rules, report_rules, Becomes}
use Rattle.suspects.proofs.State.{opened_same}
use Rattle.std.specs.Prelude.{Ok, Err, Result}
use Rattle.answers.specs.declared.Refusal.{Refusal}
use Rattle.answers.specs.declared.Reason.{Reason}
use Rattle.answers.specs.declared.Reason.TheVariants.{TableSize, NotOpened}

-- ---- tests and words agree

held_say : (s : Suspects) (F P : ℕ) → AllSay (held_rules s F P)
unfolding held_rules AllSay
held_say s F P = (opened_same s, (and_same (eq_same F s.faults) (eq_same P s.patterns), tt))

pattern_says : (P p : ℕ) → AllSay (pattern_rules P p)
unfolding pattern_rules AllSay
pattern_says P p = (lt_same p P, tt)

given_say : (F P : ℕ) (t : List ℕ) (p : ℕ) → AllSay (given_rules F P t p)
given_say F P t p = both_say (table_rules F P t) (pattern_rules P p) (table_says F P t) (pattern_says P p)

pub report_says : (s : Suspects) (F P : ℕ) (t : List ℕ) (p : ℕ) → AllSay (report_rules s F P t p)
report_says s F P t p = both_say (held_rules s F P) (given_rules F P t p) (held_say s F P) (given_say F P t p)

-- a refusal is the first that applies, with the lowest place; and where one applies, it is given
module _ {M : Type 0} {rules : List Rule} {m new : M} {n : ℕ} {r : Result ℕ Refusal} {m' : M} (says : AllSay rules) (p : Becomes rules m new n r m') (reason : Reason) (place : ℕ) where
  pub refused_applies : r ≡ Err (reason, place) → Applies rules reason place
  refused_applies = answer.refused_applies _ rules says p.answer reason place

  pub applies_refused : Applies rules reason place → r ≡ Err (reason, place)
  applies_refused = answer.applies_refused _ rules says p.answer reason place

-- ---- what is not refused

pub record Taken (s : Suspects) (F P : ℕ) (t : List ℕ) (p : ℕ) : Type 0 where
  pub opened : Opened s
  pub faults : F ≡ s.faults
  pub patterns : P ≡ s.patterns
  pub sized : Sized F P (length t)
  pub inside : p < P

pub taken : (s : Suspects) (F P : ℕ) (t : List ℕ) (p : ℕ) → refusal (report_rules s F P t p) ≡ Ok tt → Taken s F P t p
unfolding held_rules pattern_rules AllHold
taken s F P t p e =
    let w = both_fine (held_rules s F P) (given_rules F P t p) e in
    let v = both_fine (table_rules F P t) (pattern_rules P p) w.1 in
    let h = all_hold (held_rules s F P) (held_say s F P) w.0 in
    let i = all_hold (pattern_rules P p) (pattern_says P p) v.1 in
    record { opened = h.0; faults = h.1.0.0; patterns = h.1.0.1; sized = fine_sized F P t v.0; inside = i.0 }

held_fine : (s : Suspects) (F P : ℕ) → Opened s → F ≡ s.faults → P ≡ s.patterns → refusal (held_rules s F P) ≡ Ok tt
unfolding held_rules AllHold
held_fine s F P o f p = fine (held_rules s F P) (held_say s F P) (o, ((f, p), tt))

-- and back: an opened state, its own counts, a table that keeps its rules and a pattern that there is
pub taken_fine : (s : Suspects) (t : List ℕ) (p : ℕ) → Opened s → refusal (table_rules s.faults s.patterns t) ≡ Ok tt → p < s.patterns
    → refusal (report_rules s s.faults s.patterns t p) ≡ Ok tt
unfolding pattern_rules AllHold
taken_fine s t p o e l =
    let F = s.faults in
    let P = s.patterns in
    after_fine (held_rules s F P) (given_rules F P t p) (held_fine s F P o refl refl)
    ∙ after_fine (table_rules F P t) (pattern_rules P p) e
    ∙ fine (pattern_rules P p) (pattern_says P p) (l, tt)

-- ---- as the code comes to it

module _ (s : Suspects) (F P : ℕ) (t : List ℕ) (p : ℕ) where
  pub not_opened : opened_ok s ≡ false → refusal (report_rules s F P t p) ≡ Err (NotOpened, 0)
  unfolding held_rules refusal said
  not_opened e = after_refused (held_rules s F P) (given_rules F P t p) held
    where
      held : refusal (held_rules s F P) ≡ Err (NotOpened, 0)
      held = rw e

  module _ (o : Opened s) where
    pub other_counts : (eqb F s.faults && eqb P s.patterns) ≡ false → refusal (report_rules s F P t p) ≡ Err (TableSize, 0)
    unfolding held_rules refusal said
    other_counts e = after_refused (held_rules s F P) (given_rules F P t p) held
      where
        held : refusal (held_rules s F P) ≡ Err (TableSize, 0)
        held = rw ((opened_same s).tests o, e)

    pub same-counts : F ≡ s.faults → P ≡ s.patterns → refusal (report_rules s F P t p) ≡ refusal (given_rules F P t p)
    same-counts f q = after_fine (held_rules s F P) (given_rules F P t p) (held_fine s F P o f q)

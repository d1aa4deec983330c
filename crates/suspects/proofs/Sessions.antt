-- What a session comes to: the marks are those of the definition over the reports that were taken; neither their order nor repetition matters.
-- Assumes nothing.
use mathlib.Core.Path.{◌≡◌, sym, ap, subst, ◌∙◌}
use mathlib.Core.Logic.{◌↔◌}
use mathlib.Core.Bool.{Bool, not, ◌&&◌}
use mathlib.Core.List.{List, [], ◌∷◌, ◌++◌}
use Prim.Native.Nat.{ℕ, ◌≤◌, ◌<◌}
use lib.ListN.{get_or}
use Rattle.ground.specs.Below.{count_below}
use Rattle.answers.specs.Rules.{Ruling}
use Rattle.answers.specs.Rules.{Rule, refusal, unless}
use Rattle.answers.proofs.Answer.{ruling_of, was_ruled}
use Rattle.tables.proofs.Says.{fine_sized}
use Rattle.reports.specs.Reports.{Report, speaks_against, remains}
use Rattle.reports.specs.Words.{Among, Remains}
use Rattle.reports.proofs.Marks.{is-marked}
use Rattle.reports.proofs.Remains.{remains-more, same_remain, marks_words}
use Rattle.suspects.specs.declared.Suspects.{Suspects}
use Rattle.suspects.specs.State.{state_of, remains_in, Opened}
use Rattle.suspects.specs.Promise.{Becomes, narrowed_state}
use Rattle.suspects.specs.Sessions.{Session}
use Rattle.suspects.specs.Sessions.Course.{begun, took, refused}
use Rattle.suspects.proofs.State.{state_opened, same_state}
use Rattle.std.specs.Prelude.{Ok, Err, Result}
use Rattle.answers.specs.declared.Refusal.{Refusal}

-- what an answer says was ruled
module _ {M : Type 0} {rules : List Rule} {s new s' : M} {n : ℕ} {r : Result ℕ Refusal} (p : Becomes rules s new n r s') where
  pub was_taken : {k : ℕ} → r ≡ Ok k → (refusal rules ≡ Ok tt) × (s' ≡ new)
  was_taken {k} e =
      let fine = was_ruled _ p.answer (ap ruling_of e) in
      (fine, p.state ∙ ap (λ (v : Ruling). unless v s new) fine)

  pub was_refused : {why : Refusal} → r ≡ Err why → s' ≡ s
  was_refused {why} e =
      let is : refusal rules ≡ Err why = was_ruled _ p.answer (ap ruling_of e) in
      p.state ∙ ap (λ (v : Ruling). unless v s new) is

-- one report more, to the state that those before it left
pub more : (F P : ℕ) (rs : List Report) (q : Report) → narrowed_state (state_of F P (remains rs)) q ≡ state_of F P (remains (rs ++ (q ∷ [])))
more F P rs q =
    same_state F P _ _ (λ f l. ap (λ (b : Bool). b && not (speaks_against q f)) (is-marked F (remains rs) f l) ∙ sym (remains-more rs q f))

-- the state is that of the faults that remain by definition
pub session_state : {F P : ℕ} {rs : List Report} {s : Suspects} → Session F P rs s → s ≡ state_of F P (remains rs)
unfolding remains
session_state (begun b) = (was_taken b.opens b.not_refused).1
session_state {F} {P} (took {rs = rs} q so p e) = (was_taken p e).1 ∙ ap (λ (x : Suspects). narrowed_state x q) (session_state so) ∙ more F P rs q
session_state (refused q so p e) = was_refused p e ∙ session_state so

-- its counts are in range
pub session_sized : {F P : ℕ} {rs : List Report} {s : Suspects} → Session F P rs s → (1 ≤ F) × (F ≤ 256) × (1 ≤ P) × (P ≤ 256)
session_sized {F} {P} (begun b) = let z = fine_sized F P b.table (was_taken b.opens b.not_refused).0 in (z.some_fault, z.few_faults, z.some_pattern, z.few_patterns)
session_sized (took q so p e) = session_sized so
session_sized (refused q so p e) = session_sized so

module _ {F P : ℕ} {rs : List Report} {s : Suspects} (so : Session F P rs s) where
  -- so no report is refused with 22
  pub session_opened : Opened s
  session_opened = let z = session_sized so in rw (session_state so) (state_opened F P (remains rs) z.0 z.1 z.2 z.3)

  -- a fault is marked exactly if no pattern reported failed has its entry pass and none reported passed has it fail
  pub session_words : (f : ℕ) → f < F → (get_or s.marks f 0 ≡ 1) ↔ Remains rs f
  session_words f l = subst (λ (x : Suspects). (get_or x.marks f 0 ≡ 1) ↔ Remains rs f) (sym (session_state so)) (marks_words F rs f l)

  -- and the number remaining is that of the marks set
  pub session_number : s.remaining ≡ count_below F (remains_in s)
  session_number = session_opened.number ∙ ap (λ (n : ℕ). count_below n (remains_in s)) (ap (λ (x : Suspects). x.faults) (session_state so))

  -- two sessions in which each report of the one is one of the other, whatever their order and however often, come to the same state
  pub same_reports : {qs : List Report} {u : Suspects}
      → Session F P qs u
      → ((r : Report) → Among r rs → Among r qs)
      → ((r : Report) → Among r qs → Among r rs)
      → s ≡ u
  same_reports {qs} other there back =
      session_state so ∙ same_state F P (remains rs) (remains qs) (λ f l. same_remain rs qs there back f) ∙ sym (session_state other)

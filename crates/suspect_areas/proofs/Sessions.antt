-- What a session in an area comes to: the bytes of the state to which a session comes that takes the same reports, and the marks that are read of it.
-- Assumes nothing.
use mathlib.Core.Path.{◌≡◌, sym, ap, subst, ◌∙◌}
use mathlib.Core.Logic.{◌↔◌}
use mathlib.Core.Bool.{Bool}
use mathlib.Core.List.{List}
use Prim.Native.Nat.{ℕ, ◌<◌}
use lib.ListN.{get_or, take}
use lib.Seq.{get_or-take}
use Rattle.ground.specs.Below.{count_below}
use Rattle.answers.specs.Rules.{Ruling}
use Rattle.answers.specs.Rules.{refusal, unless}
use Rattle.answers.specs.Answer.{answered}
use Rattle.answers.proofs.Answer.{ruling_of, was_ruled}
use Rattle.reports.specs.Reports.{Report, remains}
use Rattle.reports.specs.Marks.{marks_of}
use Rattle.reports.specs.Words.{Among, Remains}
use Rattle.reports.proofs.Marks.{marks_length}
use Rattle.reports.proofs.Remains.{same_remain, marks_words}
use Rattle.suspects.specs.declared.Suspects.{Suspects}
use Rattle.suspects.specs.State.{state_of, Opened}
use Rattle.suspects.specs.Promise.{narrowed_state}
use Rattle.suspects.specs.Sessions.Course.{begun, took, refused}
use Rattle.suspects.proofs.State.{state_opened, same_state}
use Rattle.suspects.proofs.Sessions.{was_taken, was_refused, more}
use Rattle.suspect_areas.specs.declared.Marked.{Marked}
use Rattle.suspect_areas.specs.Bytes.{bytes_of, state_in, Held}
use Rattle.suspect_areas.specs.Promise.{AreaSession, marks_area_rules, ReadsMarks, marked_are}
use Rattle.suspect_areas.proofs.Read.{read_bytes}
use Rattle.suspect_areas.proofs.Says.{fine_open}
use Rattle.std.specs.Prelude.{Ok, Result}
use Rattle.answers.specs.declared.Refusal.{Refusal}

-- its counts are in range, so what it holds is opened
area_opened : (F P : ℕ) {rs : List Report} {a : List ℕ} → AreaSession F P rs a → (K : ℕ → Bool) → Opened (state_of F P K)
area_opened F P (begun b) K =
    let z = (fine_open b.before F P b.table (was_taken b.opens b.not_refused).0).1 in
    state_opened F P K z.some_fault z.few_faults z.some_pattern z.few_patterns
area_opened F P (took q so p e) K = area_opened F P so K
area_opened F P (refused q so p e) K = area_opened F P so K

-- the bytes of a state of these counts, read
area_read : (F P : ℕ) {rs : List Report} {a : List ℕ} → AreaSession F P rs a → (K : ℕ → Bool) → a ≡ bytes_of (state_of F P K) → state_in a ≡ state_of F P K
area_read F P so K e = ap state_in e ∙ read_bytes (state_of F P K) (area_opened F P so K)

-- the bytes are those of the faults that remain by definition
pub area_bytes : (F P : ℕ) {rs : List Report} {a : List ℕ} → AreaSession F P rs a → a ≡ bytes_of (state_of F P (remains rs))
unfolding remains
area_bytes F P (begun b) = (was_taken b.opens b.not_refused).1
area_bytes F P (took {rs = rs} q so p e) =
    (was_taken p e).1 ∙ ap (λ (x : Suspects). bytes_of (narrowed_state x q)) (area_read F P so (remains rs) (area_bytes F P so)) ∙ ap bytes_of (more F P rs q)
area_bytes F P (refused q so p e) = was_refused p e ∙ area_bytes F P so

module _ (F P : ℕ) {rs : List Report} {a : List ℕ} (so : AreaSession F P rs a) where
  pub area_state : state_in a ≡ state_of F P (remains rs)
  area_state = area_read F P so (remains rs) (area_bytes F P so)

  -- they are those of an opened state, so nothing is refused with 22
  pub area_held : Held a
  area_held =
      let opened = area_opened F P so (remains rs) in
      record { state = state_of F P (remains rs); opened = opened; marks = marks_length F (remains rs) opened.few_faults; bytes = area_bytes F P so }

  -- two sessions in which each report of the one is one of the other, whatever their order and however often, come to the same bytes
  pub same_area : {qs : List Report} {b : List ℕ}
      → AreaSession F P qs b
      → ((r : Report) → Among r rs → Among r qs)
      → ((r : Report) → Among r qs → Among r rs)
      → a ≡ b
  same_area {qs} other there back =
      area_bytes F P so ∙ ap bytes_of (same_state F P (remains rs) (remains qs) (λ f l. same_remain rs qs there back f)) ∙ sym (area_bytes F P other)

  -- what is read of it: a mark is set exactly if no pattern reported failed has the fault's entry pass and none reported passed has it fail; and how
  -- many these are, with both counts
  module _ {m m' : List ℕ} {r : Result Marked Refusal} {x y z : ℕ} (p : ReadsMarks a m r m') (e : r ≡ Ok (marked_are x y z)) where
    fine : refusal (marks_area_rules a m) ≡ Ok tt
    fine = was_ruled _ p.answer (ap ruling_of e)

    pub read_words : (f : ℕ) → f < F → (get_or m' f 0 ≡ 1) ↔ Remains rs f
    read_words f l =
        let marks : m' ≡ take F (marks_of F (remains rs)) =
        p.marks
        ∙ ap (λ (v : Ruling). unless v m (take (state_in a).faults (state_in a).marks)) fine
        ∙ ap (λ (s : Suspects). take s.faults s.marks) area_state in
        let at : get_or m' f 0 ≡ get_or (marks_of F (remains rs)) f 0 = ap (λ (v : List ℕ). get_or v f 0) marks ∙ get_or-take F _ f 0 l in
        subst (λ (n : ℕ). (n ≡ 1) ↔ Remains rs f) (sym at) (marks_words F rs f l)

    pub read_numbers_lem : r ≡ Ok (marked_are (count_below F (remains rs)) F P)
    read_numbers_lem =
        p.answer
        ∙ ap (λ (v : Ruling). answered v (marked_are (state_in a).remaining (state_in a).faults (state_in a).patterns)) fine
        ∙ ap (λ (s : Suspects). Ok (marked_are s.remaining s.faults s.patterns)) area_state

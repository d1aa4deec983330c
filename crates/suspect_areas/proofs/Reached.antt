-- A session of states can be had in an area; so bytes of an opened state are those to which some session in an area comes.
-- Assumes nothing.
use mathlib.Core.Path.{◌≡◌, refl, sym, ap, subst, ◌∙◌}
use mathlib.Core.List.{List, [], ◌∷◌}
use Prim.Native.Nat.{ℕ}
use lib.ListN.{length}
use Rattle.answers.proofs.Rules.{after_fine}
use Rattle.tables.specs.Table.{table_rules}
use Rattle.reports.specs.Reports.{Report, remains}
use Rattle.reports.proofs.Marks.{marks_length}
use Rattle.suspects.specs.declared.Suspects.{Suspects}
use Rattle.suspects.specs.Sessions.{Session}
use Rattle.suspects.specs.Sessions.Course.{begun, took, refused}
use Rattle.suspects.proofs.Promise.{is_taken}
use Rattle.suspects.proofs.Sessions.{was_taken, session_state, session_sized, session_opened}
use Rattle.suspects.proofs.Reached.{once, reached}
use Rattle.suspect_areas.specs.Bytes.{bytes_of, Held}
use Rattle.suspect_areas.specs.Promise.{size_rules, OpensArea, AreaSession}
use Rattle.suspect_areas.proofs.Read.{read_bytes, bytes-length}
use Rattle.suspect_areas.proofs.Says.{size_fine, held_fine}
use Rattle.suspect_areas.proofs.Promise.{area_reported}
use Rattle.std.specs.Prelude.{Ok}

marks_256 : {F P : ℕ} {rs : List Report} {s : Suspects} → Session F P rs s → length s.marks ≡ 256
marks_256 {F} {P} {rs} so = ap (λ (x : Suspects). length x.marks) (session_state so) ∙ marks_length F (remains rs) (session_sized so).1

held : {F P : ℕ} {rs : List Report} {s : Suspects} → Session F P rs s → Held (bytes_of s)
held {s = s} so = record { state = s; opened = session_opened so; marks = marks_256 so; bytes = refl }

-- the same reports, taken or refused, lead to the bytes of the state
pub in_area : (F P : ℕ) {rs : List Report} {s : Suspects} → Session F P rs s → AreaSession F P rs (bytes_of s)
in_area F P {s = s} (begun b) =
    let opened = was_taken b.opens b.not_refused in
    let size = size_fine (bytes_of s) (bytes-length s (marks_256 (begun b))) in
    let opens : OpensArea F P b.table (bytes_of s) (Ok F) (bytes_of s) =
    is_taken (after_fine (size_rules (bytes_of s)) (table_rules F P b.table) size ∙ opened.0) refl (ap bytes_of opened.1) in
    begun (record { table = b.table; before = bytes_of s; answer = Ok F; remaining = F; opens = opens; not_refused = refl })
in_area F P (took {m = s} q so p e) =
    took q (in_area F P so) (area_reported (bytes_of s) q (held_fine (bytes_of s) (held so)) (sym (read_bytes s (session_opened so))) p refl) e
in_area F P (refused {m = s} q so p e) =
    refused q (in_area F P so) (area_reported (bytes_of s) q (held_fine (bytes_of s) (held so)) (sym (read_bytes s (session_opened so))) p refl) e

-- an opening and one report
pub area_reached : {a : List ℕ} (h : Held a) → let s = h.state in AreaSession s.faults s.patterns (once s h.opened h.marks ∷ []) a
area_reached h =
    let s = h.state in
    subst (λ (x : List ℕ). AreaSession s.faults s.patterns (once s h.opened h.marks ∷ []) x) (sym h.bytes)
    (in_area s.faults s.patterns (reached s h.opened h.marks))

-- The refusals of the area in the paper's words, and what is not refused.
-- Assumes nothing.
use mathlib.Core.Path.{◌≡◌, sym, ap, ◌∙◌}
use mathlib.Core.List.{List}
use Prim.Native.Nat.{ℕ}
use lib.ListN.{length}
use Rattle.answers.specs.Rules.{refusal, AllSay, AllHold}
use Rattle.answers.proofs.Rules.{all_hold, fine, after_fine, both_fine, both_say}
use Rattle.answers.proofs.Same.{eq_same}
use Rattle.tables.specs.Table.{Sized, table_rules}
use Rattle.tables.proofs.Says.{table_says, fine_sized}
use Rattle.reports.specs.Reports.{Report}
use Rattle.suspects.specs.declared.Suspects.{Suspects}
use Rattle.suspects.specs.State.{Opened}
use Rattle.suspects.specs.Promise.{report_rules}
use Rattle.suspects.proofs.Says.{report_says}
use Rattle.suspect_areas.specs.Bytes.{bytes_of, state_in, Held}
use Rattle.suspect_areas.specs.Promise.{size_rules, held_area_rules, area_rules, open_area_rules, report_area_rules, room_rules, marks_area_rules}
use Rattle.suspect_areas.proofs.Read.{bytes-length}
use Rattle.suspect_areas.proofs.Held.{held_same, held_state}
use Rattle.std.specs.Prelude.{Ok}

size_says : (a : List ℕ) → AllSay (size_rules a)
unfolding size_rules AllSay
size_says a = (eq_same (length a) 288, tt)

held_says : (a : List ℕ) → AllSay (held_area_rules a)
unfolding held_area_rules AllSay
held_says a = (held_same a, tt)

area_says : (a : List ℕ) → AllSay (area_rules a)
area_says a = both_say (size_rules a) (held_area_rules a) (size_says a) (held_says a)

room_says : (s : Suspects) (m : List ℕ) → AllSay (room_rules s m)
unfolding room_rules AllSay
room_says s m = (eq_same (length m) s.faults, tt)

pub open_says : (a : List ℕ) (F P : ℕ) (t : List ℕ) → AllSay (open_area_rules a F P t)
open_says a F P t = both_say (size_rules a) (table_rules F P t) (size_says a) (table_says F P t)

pub report_area_says : (a : List ℕ) (q : Report) → AllSay (report_area_rules a q)
report_area_says a q =
    both_say (area_rules a) (report_rules (state_in a) q.faults q.patterns q.table q.pattern) (area_says a)
    (report_says (state_in a) q.faults q.patterns q.table q.pattern)

pub marks_area_says : (a m : List ℕ) → AllSay (marks_area_rules a m)
marks_area_says a m = both_say (area_rules a) (room_rules (state_in a) m) (area_says a) (room_says (state_in a) m)

-- ---- what is not refused

pub fine_size : (a : List ℕ) → refusal (size_rules a) ≡ Ok tt → length a ≡ 288
unfolding size_rules AllHold
fine_size a e = (all_hold (size_rules a) (size_says a) e).0

-- an opening
pub fine_open : (a : List ℕ) (F P : ℕ) (t : List ℕ) → refusal (open_area_rules a F P t) ≡ Ok tt → (length a ≡ 288) × Sized F P (length t)
fine_open a F P t e = let w = both_fine (size_rules a) (table_rules F P t) e in (fine_size a w.0, fine_sized F P t w.1)

-- the area has its size and holds the bytes of an opened state
pub record HoldsState (a : List ℕ) : Type 0 where
  pub size : length a ≡ 288
  pub opened : Opened (state_in a)
  pub bytes : a ≡ bytes_of (state_in a)

pub fine_area : (a : List ℕ) → refusal (area_rules a) ≡ Ok tt → HoldsState a
unfolding held_area_rules AllHold
fine_area a e =
    let w = both_fine (size_rules a) (held_area_rules a) e in
    let h = (all_hold (held_area_rules a) (held_says a) w.1).0 in
    let is = held_state h in
    record { size = fine_size a w.0; opened = rw is h.opened; bytes = h.bytes ∙ ap bytes_of (sym is) }

-- and back
pub size_fine : (a : List ℕ) → length a ≡ 288 → refusal (size_rules a) ≡ Ok tt
unfolding size_rules AllHold
size_fine a e = fine (size_rules a) (size_says a) (e, tt)

pub held_fine : (a : List ℕ) → Held a → refusal (area_rules a) ≡ Ok tt
unfolding held_area_rules AllHold
held_fine a h =
    after_fine (size_rules a) (held_area_rules a) (size_fine a (ap length h.bytes ∙ bytes-length h.state h.marks))
    ∙ fine (held_area_rules a) (held_says a) (h, tt)

-- and there is room for the marks
pub fine_marks : (a m : List ℕ) → refusal (marks_area_rules a m) ≡ Ok tt → HoldsState a × (length m ≡ (state_in a).faults)
unfolding room_rules AllHold
fine_marks a m e =
    let w = both_fine (area_rules a) (room_rules (state_in a) m) e in
    (fine_area a w.0, (all_hold (room_rules (state_in a) m) (room_says (state_in a) m) w.1).0)

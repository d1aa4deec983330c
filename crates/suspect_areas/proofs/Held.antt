-- Bytes of an opened state: that the test says the words, and how the code comes to it.
-- Assumes nothing.
use mathlib.Core.Path.{◌≡◌, sym, ap, ◌∙◌}
use mathlib.Core.Bool.{Bool, true, false, not}
use mathlib.Core.List.{List, ◌++◌}
use Prim.Native.Nat.{ℕ, ◌<◌}
use native.Mathlib.Omega.{arith}
use lib.Dec.{eqb}
use lib.ListN.{length, take, drop, length-drop, take-append-drop, get_or-append}
use lib.Seq.{length-take-le, get_or-take, ext_get_or}
use borrow.Author.Tests.{eq-eqb, eqb-true, not-true, not-false}
use Rattle.ground.proofs.Tests.{both, and_both}
use Rattle.ground.proofs.Below.{not_any, none_any}
use Rattle.answers.specs.Rules.{Same}
use Rattle.answers.specs.Area.{area_of}
use Rattle.answers.proofs.Area.{area_length}
use Rattle.suspects.specs.declared.Suspects.{Suspects}
use Rattle.suspects.specs.State.{opened_ok}
use Rattle.suspects.proofs.State.{opened_same}
use Rattle.suspect_areas.specs.Bytes.{numbers_of, bytes_of, state_in, differs, begins_with, held_ok, Held}
use Rattle.suspect_areas.proofs.Read.{read_bytes, bytes-length}

-- ---- the test and the words

-- bytes that begin as their state says are its bytes, and its bytes begin so
begin_bytes : (a : List ℕ) → length a ≡ 288 → begins_with a (area_of (numbers_of (state_in a))) ≡ true → a ≡ bytes_of (state_in a)
unfolding bytes_of state_in
begin_bytes a size begins =
    let front = area_of (numbers_of (state_in a)) in
    let long = area_length (numbers_of (state_in a)) in
    let front_long = length-take-le 32 a (omega (arith, size)) in
    let same : take 32 a ≡ front =
    ext_get_or 0 (take 32 a) front (front_long ∙ sym long)
    (λ i l.
    let low : i < 32 = omega (arith, front_long) in
    get_or-take 32 a i 0 low ∙ eqb-true _ _ (not-false _ (not_any (length front) (differs a front) (not-true _ begins) i (omega (arith, long))))) in
    sym (take-append-drop 32 a) ∙ ap (λ (v : List ℕ). v ++ drop 32 a) same

bytes_begin : (s : Suspects) → begins_with (bytes_of s) (area_of (numbers_of s)) ≡ true
unfolding bytes_of
bytes_begin s =
    let front = area_of (numbers_of s) in
    ap not (none_any (length front) (differs (bytes_of s) front) (λ i l. ap not (eq-eqb _ _ (get_or-append front s.marks 0 i l))))

pub marks_long : (a : List ℕ) → length a ≡ 288 → length (state_in a).marks ≡ 256
unfolding state_in
marks_long a size = rw length-drop (omega (arith, size))

-- the state that stands there is the one whose bytes they are
pub held_state : {a : List ℕ} (h : Held a) → state_in a ≡ h.state
held_state h = ap state_in h.bytes ∙ read_bytes h.state h.opened

module _ (a : List ℕ) where
  is_held : held_ok a ≡ true → Held a
  unfolding held_ok
  is_held e =
      let w = both (eqb (length a) 288) _ e in
      let v = both (opened_ok (state_in a)) _ w.1 in
      let size = eqb-true _ _ w.0 in
      record {
        state = state_in a;
        opened = (opened_same (state_in a)).holds v.0;
        marks = marks_long a size;
        bytes = begin_bytes a size v.1;
      }

  held_ok_lem : Held a → held_ok a ≡ true
  unfolding held_ok
  held_ok_lem h =
      let is = held_state h in
      let size : length a ≡ 288 = ap length h.bytes ∙ bytes-length h.state h.marks in
      let begins : begins_with a (area_of (numbers_of (state_in a))) ≡ true =
      ap (λ (x : List ℕ). begins_with x (area_of (numbers_of (state_in a)))) h.bytes
      ∙ ap (λ (x : Suspects). begins_with (bytes_of h.state) (area_of (numbers_of x))) is
      ∙ bytes_begin h.state in
      and_both (eq-eqb (length a) 288 size) (and_both (ap opened_ok is ∙ (opened_same h.state).tests h.opened) begins)

  pub held_same : Same (held_ok a) (Held a)
  held_same = record { holds = is_held; tests = held_ok_lem }

-- ---- as the code comes to it

module _ (a : List ℕ) {s : Suspects} (size : length a ≡ 288) (is : s ≡ state_in a) where
  pub not_opened : opened_ok s ≡ false → false ≡ held_ok a
  unfolding held_ok
  not_opened e = rw (eq-eqb (length a) 288 size, ← is, e)

  pub by_front : {front : List ℕ} {b : Bool} → opened_ok s ≡ true → front ≡ area_of (numbers_of s) → b ≡ begins_with a front → b ≡ held_ok a
  unfolding held_ok
  by_front e f says = says ∙ rw (eq-eqb (length a) 288 size, ← is, e, f)

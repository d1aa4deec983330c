-- Opened states: the test says the words, and the states of a set of faults are opened.
-- Assumes nothing.
use mathlib.Core.Path.{◌≡◌, sym, ap, ◌∙◌}
use mathlib.Core.Bool.{Bool, true, not}
use mathlib.Core.Logic.{⊎_elim}
use mathlib.Core.List.{List}
use Prim.Native.Nat.{ℕ, ◌≤◌, ◌<◌}
use native.Mathlib.Omega.{arith}
use lib.Dec.{ltb}
use lib.ListN.{length, get_or}
use lib.Seq.{ext_get_or}
use borrow.Author.Tests.{eq-eqb, eqb-true, lt-ltb, le-ltb, not-true}
use Rattle.ground.specs.Choose.{one}
use Rattle.ground.specs.Below.{any_below, count_below}
use Rattle.ground.proofs.Tests.{either, both, and_both, one_most, bit_one}
use Rattle.ground.proofs.Counting.{count_same}
use Rattle.answers.specs.Rules.{Same}
use Rattle.tables.specs.Table.{in_range}
use Rattle.tables.proofs.Says.{in_range_lem, range_ok}
use Rattle.reports.specs.Marks.{marks_of, no_mark}
use Rattle.reports.proofs.Marks.{marks_length, mark_at, mark_rest, count_marked, same_marks, all_marks, marks_all}
use Rattle.suspects.specs.declared.Suspects.{Suspects}
use Rattle.suspects.specs.State.{state_of, remains_in, opened_ok, Opened}

module _ (s : Suspects) where
  is_opened : opened_ok s ≡ true → Opened s
  unfolding opened_ok
  is_opened e =
      let a = both (in_range s.faults) _ e in
      let b = both (in_range s.patterns) _ a.1 in
      let c = both (not (any_below (length s.marks) (no_mark s.faults s.marks))) _ b.1 in
      let small = all_marks s.faults s.marks (not-true _ c.0) in
      let F = in_range_lem s.faults a.0 in
      let P = in_range_lem s.patterns b.0 in
      record {
        some_fault = F.0;
        few_faults = F.1;
        some_pattern = P.0;
        few_patterns = P.1;
        marks_are = λ f l. rw (lt-ltb f s.faults l) at (small f);
        rest = λ f l. omega (arith, rw (le-ltb f s.faults l) at (small f));
        number = eqb-true _ _ c.1;
      }

  opened_ok_lem : Opened s → opened_ok s ≡ true
  unfolding opened_ok
  opened_ok_lem o =
      and_both (range_ok s.faults o.some_fault o.few_faults)
      (and_both (range_ok s.patterns o.some_pattern o.few_patterns)
      (and_both (ap not (marks_all s.faults s.marks small)) (eq-eqb _ _ o.number)))
    where
      small : (f : ℕ) → get_or s.marks f 0 ≤ one (ltb f s.faults)
      small f =
          ⊎_elim
          (λ h. rw (lt-ltb f s.faults h) (o.marks_are f h))
          (λ h. rw (le-ltb f s.faults h) (omega (arith, o.rest f h)))
          (either f s.faults)

  pub opened_same : Same (opened_ok s) (Opened s)
  opened_same = record { holds = is_opened; tests = opened_ok_lem }

-- the state of some faults, of counts in range
pub state_opened : (F P : ℕ) (K : ℕ → Bool) → 1 ≤ F → F ≤ 256 → 1 ≤ P → P ≤ 256 → Opened (state_of F P K)
state_opened F P K a b c d = record {
  some_fault = a;
  few_faults = b;
  some_pattern = c;
  few_patterns = d;
  marks_are = λ f l. rw (mark_at F K f l) (one_most (K f));
  rest = mark_rest F K;
  number = sym (count_marked F K);
}

-- as the code makes it: of its marks and their number
pub made : {m : List ℕ} {F P n : ℕ} (K : ℕ → Bool) → m ≡ marks_of F K → n ≡ count_below F K → record { marks = m; faults = F; patterns = P; remaining = n } ≡ state_of F P K
made {F = F} {P = P} K marks number i = record { marks = marks i; faults = F; patterns = P; remaining = number i }

-- by the faults that there are alone
pub same_state : (F P : ℕ) (K L : ℕ → Bool) → ((f : ℕ) → f < F → K f ≡ L f) → state_of F P K ≡ state_of F P L
same_state F P K L same = made L (same_marks F K L same) (count_same F K L same)

-- an opened state is that of the faults that remain in it
pub opened_is : (s : Suspects) → Opened s → length s.marks ≡ 256 → s ≡ state_of s.faults s.patterns (remains_in s)
opened_is s o long = made (remains_in s) (ext_get_or 0 s.marks (marks_of s.faults (remains_in s)) (long ∙ sym (marks_length s.faults (remains_in s) o.few_faults)) same) o.number
  where
    same : (f : ℕ) → f < length s.marks → get_or s.marks f 0 ≡ get_or (marks_of s.faults (remains_in s)) f 0
    same f l =
        ⊎_elim
        (λ h. bit_one (get_or s.marks f 0) (o.marks_are f h) ∙ sym (mark_at s.faults (remains_in s) f h))
        (λ h. o.rest f h ∙ sym (mark_rest s.faults (remains_in s) f h))
        (either f s.faults)

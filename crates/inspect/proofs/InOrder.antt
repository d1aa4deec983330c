-- What is looked for in order: each finding is the one that is defined, where nothing was found before it.
-- Assumes nothing.
use mathlib.Core.Path.{◌≡◌, ap, ◌∙◌}
use mathlib.Core.Bool.{Bool, false}
use mathlib.Core.List.{List}
use Prim.Native.Nat.{ℕ, ◌≤◌, ◌<◌}
use lib.ListN.{length}
use borrow.Author.Tests.{lt-ltb, le-ltb}
use Rattle.ground.specs.Below.{any_below}
use Rattle.std.specs.Prelude.{Some, None}
use Rattle.ground.proofs.Below.{none_any, not_any}
use Rattle.tables.specs.Entries.{Entries, entries_of}
use Rattle.needs.specs.Needs.{lost, kept}
use Rattle.needs.specs.Words.{Meets}
use Rattle.findings.specs.declared.Finding.TheVariants.{Sound, BadMark, LostFault, LostPair, SparePattern}
use Rattle.findings.specs.Findings.{bad_mark, pair_lost, spare, first_where, place_where, finding_of}
use Rattle.inspect.specs.Owed.{lost_in, pair_in, pair_where, MarksReady, SpareReady, FindReady}
use Rattle.findings.proofs.Lowest.{any_lowest, place-lowest, place-nowhere, place-same}
use Rattle.inspect.proofs.Pairs.{pair-lowest, pair-nowhere, pair-same}
use Rattle.findings.proofs.Words.{lost-same, paired_same, met}
use Rattle.findings.proofs.Firstly.{none_nowhere}
use Rattle.inspect.proofs.Shown.{fault-shown, pair-shown}

-- ---- marks

-- the first one that is bad, by a look at all of them
module _ {P : ℕ} (m : List ℕ) (size : length m ≡ P) {r : ℕ} (is : r ≡ first_where (length m) (bad_mark m)) where
  bad_is : r ≡ first_where P (bad_mark m)
  bad_is = is ∙ ap (λ (n : ℕ). first_where n (bad_mark m)) size

  pub found_bad : (E : Entries) (F : ℕ) → r < P → BadMark r ≡ finding_of E F P m
  unfolding finding_of
  found_bad E F l = rw (any_lowest P (bad_mark m), ← bad_is, lt-ltb r P l)

  pub marks_ready : P ≤ r → MarksReady P m
  marks_ready l = record { size = size; none_bad = not_any P (bad_mark m) (rw (any_lowest P (bad_mark m), ← bad_is) (le-ltb r P l)) }

module _ {t : List ℕ} {F P : ℕ} {m kc ks dc ds : List ℕ} (so : FindReady t F P m kc ks dc ds) where
  -- ---- faults

  none_bad : any_below P (bad_mark m) ≡ false
  none_bad = none_any P (bad_mark m) so.marks.none_bad

  lost_is : place_where F (lost_in ks ds) ≡ place_where F (lost (entries_of F t) P (kept m))
  lost_is =
      place-same F (lost_in ks ds) (lost (entries_of F t) P (kept m))
      (fault-shown so.kept_room.few_faults so.kept_room.few_patterns so.marks so.kept_tally so.dropped_tally)

  pub found-lost : {f : ℕ} → Some f ≡ place_where F (lost_in ks ds) → LostFault f ≡ finding_of (entries_of F t) F P m
  unfolding finding_of
  found-lost at =
      let w = place-lowest F (lost (entries_of F t) P (kept m)) (at ∙ lost_is) in
      rw (none_bad, w.1, w.0)

  -- ---- pairs, where no fault is lost

  module _ (no-fault : None ≡ place_where F (lost_in ks ds)) where
    none_lost : any_below F (lost (entries_of F t) P (kept m)) ≡ false
    none_lost = place-nowhere F (lost (entries_of F t) P (kept m)) (no-fault ∙ lost_is)

    -- the lower fault of a lost pair, and the higher one
    abbrev paired : ℕ → ℕ → Bool
    paired = pair_lost (entries_of F t) P m

    pair_is : pair_where F (pair_in kc dc ks) ≡ pair_where F paired
    pair_is =
        pair-same F (pair_in kc dc ks) paired
        (pair-shown so.kept_room.few_faults so.kept_room.few_patterns so.marks so.kept_tally so.dropped_tally
        (not_any F (lost (entries_of F t) P (kept m)) none_lost))

    pub found-pair : {f g : ℕ} → Some (f, g) ≡ pair_where F (pair_in kc dc ks) → LostPair f g ≡ finding_of (entries_of F t) F P m
    unfolding finding_of
    found-pair at =
        let w = pair-lowest F paired (at ∙ pair_is) in
        rw (none_bad, none_lost, w.1, ← w.0.0, w.0.1)

    -- ---- patterns, where no pair is lost

    module _ (no-pair : None ≡ pair_where F (pair_in kc dc ks)) where
      none_paired : any_below F (λ f. any_below F (paired f)) ≡ false
      none_paired = pair-nowhere F paired (no-pair ∙ pair_is)

      enough : Meets (entries_of F t) F P (kept m)
      enough = (met (entries_of F t) F P m).1 (none_nowhere (lost-same (entries_of F t) P m) none_lost, none_nowhere (paired_same (entries_of F t) F P m) none_paired)

      pub spare-ready : SpareReady t F P m kc ks
      spare-ready = record { room = so.kept_room; marks = so.marks.size; tallied = so.kept_tally; enough = enough }

      pub found-spare : {p : ℕ} → Some p ≡ place_where P (spare (entries_of F t) F P m) → SparePattern p ≡ finding_of (entries_of F t) F P m
      unfolding finding_of
      found-spare at =
          let w = place-lowest P (spare (entries_of F t) F P m) at in
          rw (none_bad, none_lost, none_paired, w.1, w.0)

      pub found_sound : None ≡ place_where P (spare (entries_of F t) F P m) → Sound ≡ finding_of (entries_of F t) F P m
      unfolding finding_of
      found_sound none = rw (none_bad, none_lost, none_paired, place-nowhere P (spare (entries_of F t) F P m) none)

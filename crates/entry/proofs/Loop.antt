-- The loop of `entry_by`, as facts that do not look into the tests: where it starts, one line more, and its ends.
-- Assumes nothing.
use mathlib.Core.Path.{◌≡◌, refl, sym, ◌∙◌}
use mathlib.Core.Bool.{Bool, true, false, not, ◌&&◌, ◌||◌, true≢false}
use mathlib.Core.List.{List}
use Prim.Native.Nat.{ℕ, ◌+◌, ◌≤◌, ◌<◌}
use native.Mathlib.Numerals.{add-one}
use native.Mathlib.Omega.{arith}
use lib.ListN.{get_or, take, drop}
use lib.Seq.{get_or-take, get_or-drop}
use Rattle.ground.specs.Choose.{choose}
use Rattle.ground.proofs.Below.{any_some}
use Rattle.circuit.specs.Record.{out_at, is_output}
use Rattle.tables.specs.Entries.{pass, fail, unknown}
use Rattle.entry.specs.Entry.{Test, differ, some_output, every_output, entry_by}
use Rattle.entry.specs.Owed.{status_by, joined_of}
use Rattle.entry.proofs.Words.{chose_fail}

-- a choice that is not fail
not_chosen : (d : Bool) (x : ℕ) → (choose d fail x ≡ fail → ⊥) → d ≡ false
not_chosen true x h = absurd (h refl)
not_chosen false x h = refl

joins : (t d g : Bool) (r : ℕ) → d ≡ false → r ≡ choose t pass unknown → joined_of r (choose d fail (choose g pass unknown)) ≡ choose (t && g) pass unknown
unfolding joined_of
joins t true g r e q = absurd (true≢false e)
joins true false true r e q = q
joins true false false r e q = refl
joins false false true r e q = q
joins false false false r e q = refl

-- the lines below k do not differ, and r is pass if they all pass
pub record SoFar (t : Test) (c g f : List ℕ) (n k r : ℕ) : Type 0 where
  pub at_most : k ≤ n
  pub none : some_output differ c g f k ≡ false
  pub passes : r ≡ choose (every_output t c g f k) pass unknown

pub start : (t : Test) (c g f : List ℕ) (n : ℕ) → SoFar t c g f n 0 pass
start t c g f n = record { at_most = omega arith; none = refl; passes = refl }

module _ {t : Test} {c g f : List ℕ} {n k r : ℕ} (so : SoFar t c g f n k r) where
  pub more : {s : ℕ} → k < n → s ≡ status_by t (out_at c k) (get_or g k 0) (get_or f k 0) → (s ≡ fail → ⊥) → SoFar t c g f n (k + 1) (joined_of r s)
  unfolding status_by
  more l e ne =
      let d : (is_output c k && differ (get_or g k 0) (get_or f k 0)) ≡ false = not_chosen _ _ (λ q. ne (e ∙ q)) in
      record {
        at_most = omega arith;
        none = rw (add-one, so.none, d);
        passes = rw (add-one, e) (joins (every_output t c g f k) _ _ r d so.passes);
      }

  pub failed : {s : ℕ} → k < n → s ≡ status_by t (out_at c k) (get_or g k 0) (get_or f k 0) → s ≡ fail → fail ≡ entry_by t c g f n
  unfolding status_by entry_by
  failed l e q =
      let d : (is_output c k && differ (get_or g k 0) (get_or f k 0)) ≡ true = chose_fail _ (not (is_output c k) || t (get_or g k 0) (get_or f k 0)) (sym e ∙ q) in
      rw (any_some n (λ j. is_output c j && differ (get_or g j 0) (get_or f j 0)) k l d)

  pub finished : n ≤ k → r ≡ entry_by t c g f n
  unfolding entry_by
  finished l = let e : k ≡ n = omega (arith, so.at_most) in rw (← e, so.none) so.passes

-- the values of line k in the two halves of the work memory
pub in_halves : (t : Test) (out : ℕ) (w : List ℕ) {n k s : ℕ}
    → k < n
    → s ≡ status_by t out (get_or w k 0) (get_or w (n + k) 0)
    → s ≡ status_by t out (get_or (take n w) k 0) (get_or (drop n w) k 0)
in_halves t out w {n} {k} l e = e ∙ rw (get_or-take n w k 0 l, get_or-drop n w k 0)

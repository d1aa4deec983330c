-- Masks: what they do at one output, what they change of an entry, and the two ends of the rule, nothing expected and an expected value that becomes X.
-- Assumes nothing.
use mathlib.Core.Path.{◌≡◌, refl}
use mathlib.Core.Logic.{◌⊎◌, inl, inr}
use mathlib.Core.Bool.{Bool, true, false, false≢true}
use mathlib.Core.List.{List}
use Prim.Native.Nat.{ℕ, ◌≤◌, ◌<◌}
use native.Mathlib.Omega.{arith}
use borrow.Author.Tests.{lt-ltb, le-ltb}
use Rattle.ground.specs.Choose.{choose}
use Rattle.tables.specs.Entries.{pass, fail, unknown}
use Rattle.entry.specs.Entry.{differ, agree, as_expected, some_output, every_output, entry_by, entry_of}
use Rattle.entry.specs.Owed.{output_test}
use Rattle.entry.specs.Words.{Agree, AsExpected, SomeOutput, EveryOutput}
use Rattle.entry.proofs.Words.{agree_says, expected_says, every_says, expected_passes, pass_every, entry_says}

-- ---- at one output

-- where the good value is X the test is passed if there are masks
pub masked : (masks : Bool) (a b : ℕ) → 2 ≤ a → output_test masks a b ≡ masks
unfolding as_expected agree
masked true a b l = simp (le-ltb a 2 l)
masked false a b l = simp (le-ltb a 2 l)

-- where it is known masks change nothing
pub compared : (masks : Bool) (a b : ℕ) → a < 2 → output_test masks a b ≡ agree a b
unfolding as_expected
compared true a b l = simp (lt-ltb a 2 l)
compared false a b l = refl

-- ---- at all of them

module _ (c g f : List ℕ) (n : ℕ) where
  -- an entry that is unknown without masks may be pass with them, and no other changes
  pub masks_change : (entry_of c g f n ≡ entry_by agree c g f n) ⊎ ((entry_by agree c g f n ≡ unknown) × (entry_of c g f n ≡ pass))
  unfolding entry_by
  masks_change = go (some_output differ c g f n) (every_output agree c g f n) (every_output as_expected c g f n) more
    where
      -- where all agree, all are as expected
      more : every_output agree c g f n ≡ true → every_output as_expected c g f n ≡ true
      more e =
          (every_says as_expected AsExpected expected_says c g f n).tests
          (λ k l out _. (every_says agree Agree agree_says c g f n).holds e k l out)

      go : (d p q : Bool)
          → (p ≡ true → q ≡ true)
          → (choose d fail (choose q pass unknown) ≡ choose d fail (choose p pass unknown))
          ⊎ ((choose d fail (choose p pass unknown) ≡ unknown) × (choose d fail (choose q pass unknown) ≡ pass))
      go true p q h = inl refl
      go false true true h = inl refl
      go false true false h = absurd (false≢true (h refl))
      go false false true h = inr (refl, refl)
      go false false false h = inl refl

  -- with nothing to compare the entry is pass
  pub all_masked : EveryOutput (λ a b. 2 ≤ a) c g f n → entry_of c g f n ≡ pass
  all_masked h = (entry_says c g f n).is_pass (λ k l out known. absurd (omega (arith, h k l out)))

  -- where a value is expected, a faulty X is no pass
  pub faulty_x : SomeOutput (λ a b. (a < 2) × (2 ≤ b)) c g f n → entry_of c g f n ≡ pass → ⊥
  faulty_x w e =
      let h = pass_every expected_passes c g f n e w.0 w.1.inside w.1.output w.1.holds.0 in
      omega (arith, h.faulty_known, w.1.holds.1)

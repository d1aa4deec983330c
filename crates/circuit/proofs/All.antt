-- A test at each number below n beside what is asked there: that it holds at each, and the lowest at which it fails.
-- Assumes nothing.
use mathlib.Core.Path.{◌≡◌, refl, sym, ◌∙◌}
use mathlib.Core.Logic.{⊎_elim}
use mathlib.Core.Bool.{Bool, true, false, true≢false}
use Prim.Native.Nat.{ℕ, ◌<◌}
use native.Mathlib.Omega.{arith}
use Rattle.ground.specs.Below.{all_below, first_not}
use Rattle.ground.proofs.Tests.{T-is, is_T}
use Rattle.ground.proofs.Below.{at_below, every_all}
use Rattle.ground.proofs.First.{Every, first_cases, first_is}
use Rattle.answers.specs.Rules.{Same}

module _ (n : ℕ) (t : ℕ → Bool) where
  all_each : all_below n t ≡ true → (k : ℕ) → k < n → t k ≡ true
  all_each e k l = T-is (t k) (at_below n t (is_T (all_below n t) e) k l)

  pub all-holds : Every t 0 n → all_below n t ≡ true
  all-holds h = T-is (all_below n t) (every_all n t (λ k l. is_T (t k) (h k (omega arith) l)))

  pub all-fails : (k : ℕ) → k < n → t k ≡ false → all_below n t ≡ false
  all-fails k l e = go (all_below n t) refl
    where
      go : (v : Bool) → all_below n t ≡ v → v ≡ false
      go true all = absurd (true≢false (sym (all_each all k l) ∙ e))
      go false all = refl

  pub all_same : {A : ℕ → Type 0} → ((k : ℕ) → k < n → Same (t k) (A k)) → Same (all_below n t) ((k : ℕ) → k < n → A k)
  all_same s = record { holds = λ e k l. (s k l).holds (all_each e k l); tests = λ h. all-holds (λ k _ l. (s k l).tests (h k l)) }

-- k is the lowest number below n at which what is asked does not hold
pub record LowestBreak (A : ℕ → Type 0) (n k : ℕ) : Type 0 where
  pub inside : k < n
  pub here : A k → ⊥
  pub below : (j : ℕ) → j < k → A j

module _ (n : ℕ) {t : ℕ → Bool} {A : ℕ → Type 0} (same : (k : ℕ) → Same (t k) (A k)) where
  -- if it does not hold at each, that is the first at which the test fails
  pub first_breaks : (((k : ℕ) → k < n → A k) → ⊥) → LowestBreak A n (first_not n t)
  first_breaks not =
      ⊎_elim
      (λ q. record {
        inside = q.inside;
        here = λ a. true≢false (sym ((same _).tests a) ∙ q.bad);
        below = λ j l. (same j).holds (q.below j (omega arith) l);
      })
      (λ a. absurd (not (λ k l. (same k).holds (a.1 k (omega arith) l))))
      (first_cases n t)

  -- and there is no other
  pub breaks_first : {k : ℕ} → LowestBreak A n k → first_not n t ≡ k
  breaks_first {k} b = first_is n t (record { above = omega arith; inside = b.inside; bad = fails (t k) refl; below = λ j _ l. (same j).tests (b.below j l) })
    where
      fails : (v : Bool) → t k ≡ v → v ≡ false
      fails true e = absurd (b.here ((same k).holds e))
      fails false e = refl

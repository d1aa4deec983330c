-- The lowest place below n at which a test holds: `first_where` is that place, or n; `place_where` is it, if there is one.
-- Assumes nothing.
use mathlib.Core.Path.{◌≡◌, sym, ap, ◌∙◌}
use mathlib.Core.Logic.{⊎_elim}
use mathlib.Core.Bool.{Bool, true, false, not}
use Prim.Native.Nat.{ℕ, ◌<◌}
use native.Mathlib.Omega.{arith}
use lib.Dec.{ltb}
use borrow.Author.Tests.{lt-ltb, le-ltb, not-true, not-false}
use Rattle.std.specs.Prelude.{Some, None}
use Rattle.std.proofs.lemmas.Option.{same_Some, none-some}
use Rattle.ground.specs.Choose.{choose}
use Rattle.ground.specs.Below.{any_below}
use Rattle.ground.proofs.Tests.{either}
use Rattle.ground.proofs.Below.{any_some, none_any, not_any}
use Rattle.ground.proofs.First.{first_cases, first_same, stopped}
use Rattle.findings.specs.Findings.{first_where, place_where}

-- ---- what it says

module _ (n : ℕ) (t : ℕ → Bool) where
  pub holds-lowest : first_where n t < n → t (first_where n t) ≡ true
  holds-lowest l = ⊎_elim (λ q. not-false _ q.bad) (λ a. absurd (omega (arith, a.0))) (first_cases n (λ k. not (t k)))

  pub fails_lower : (j : ℕ) → j < first_where n t → t j ≡ false
  fails_lower j l =
      not-true _ (⊎_elim (λ q. q.below j (omega arith) l) (λ a. a.1 j (omega arith) (omega (arith, a.0))) (first_cases n (λ k. not (t k))))

  -- the test holds at some place exactly if the lowest is one of them
  pub any_lowest : any_below n t ≡ ltb (first_where n t) n
  any_lowest =
      ⊎_elim
      (λ l. any_some n t (first_where n t) l (holds-lowest l) ∙ sym (lt-ltb (first_where n t) n l))
      (λ l. none_any n t (λ k h. fails_lower k (omega arith)) ∙ sym (le-ltb (first_where n t) n l))
      (either (first_where n t) n)

  lowest-is : {k : ℕ} → k < n → ((j : ℕ) → j < k → t j ≡ false) → t k ≡ true → k ≡ first_where n t
  lowest-is l h e = stopped l (λ j _ b. ap not (h j b)) (ap not e)

  -- ---- as it is found, or nothing is

  pub place-is : {k : ℕ} → k < n → any_below k t ≡ false → t k ≡ true → Some k ≡ place_where n t
  place-is {k} l none e = rw (← lowest-is l (not_any k t none) e, lt-ltb k n l)

  pub place-none : any_below n t ≡ false → None ≡ place_where n t
  place-none e = rw (sym any_lowest ∙ e)

  pub place-lowest : {k : ℕ} → Some k ≡ place_where n t → (k ≡ first_where n t) × (any_below n t ≡ true)
  place-lowest {k} e = go (ltb (first_where n t) n) any_lowest e
    where
      go : (b : Bool) → any_below n t ≡ b → Some k ≡ choose b (Some (first_where n t)) None → (k ≡ first_where n t) × (any_below n t ≡ true)
      go true q e = (same_Some _ _ e, q)
      go false q e = absurd (none-some _ (sym e))

  pub place-nowhere : None ≡ place_where n t → any_below n t ≡ false
  place-nowhere e = go (ltb (first_where n t) n) any_lowest e
    where
      go : (b : Bool) → any_below n t ≡ b → None ≡ choose b (Some (first_where n t)) None → any_below n t ≡ false
      go true q e = absurd (none-some _ e)
      go false q e = q

-- two tests that agree below n
pub lowest-same : (n : ℕ) (t u : ℕ → Bool) → ((k : ℕ) → k < n → t k ≡ u k) → first_where n t ≡ first_where n u
lowest-same n t u h = first_same n (λ k. not (t k)) (λ k. not (u k)) (λ k l. ap not (h k l))

pub place-same : (n : ℕ) (t u : ℕ → Bool) → ((k : ℕ) → k < n → t k ≡ u k) → place_where n t ≡ place_where n u
place-same n t u h = rw (lowest-same n t u h)

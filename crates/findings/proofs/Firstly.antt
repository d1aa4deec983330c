-- `firstly` in words: what is found at the lowest place where they hold; where they hold at none, what comes next.
-- Assumes nothing.
use mathlib.Core.Path.{◌≡◌, refl, sym, ap, ◌∙◌}
use mathlib.Core.Bool.{Bool, true, false, not}
use Prim.Native.Nat.{ℕ, ◌<◌}
use native.Mathlib.Omega.{arith}
use borrow.Author.Tests.{ltb-true}
use Rattle.ground.specs.Choose.{choose}
use Rattle.ground.specs.Below.{any_below}
use Rattle.ground.proofs.Below.{not_any}
use Rattle.answers.specs.Rules.{Same}
use Rattle.answers.proofs.Same.{never_same}
use Rattle.findings.specs.declared.Finding.{Finding}
use Rattle.findings.specs.Findings.{first_where, firstly}
use Rattle.findings.specs.Words.{Nowhere, LowestAt}
use Rattle.findings.proofs.Lowest.{holds-lowest, fails_lower, any_lowest}

-- there is one lowest place
not_lower : {n j k : ℕ} {Q : ℕ → Type 0} → LowestAt n Q j → LowestAt n Q k → j < k → ⊥
not_lower p q l = q.lower _ l p.holds

pub one-lowest : {n j k : ℕ} {Q : ℕ → Type 0} → LowestAt n Q j → LowestAt n Q k → j ≡ k
one-lowest p q = let a = not_lower p q in let b = not_lower q p in omega arith

-- words fail where their test does
test_fails : {b : Bool} {A : Type 0} → Same b A → b ≡ false → A → ⊥
test_fails s e = (never_same _ s).holds (ap not e)

module _ {n : ℕ} {t : ℕ → Bool} {Q : ℕ → Type 0} (same : (k : ℕ) → Same (t k) (Q k)) where
  -- the words of the two cases
  pub some-lowest : any_below n t ≡ true → LowestAt n Q (first_where n t)
  some-lowest e =
      let l = ltb-true (first_where n t) n (sym (any_lowest n t) ∙ e) in
      record { inside = l; holds = (same _).holds (holds-lowest n t l); lower = λ k h. test_fails (same k) (fails_lower n t k h) }

  pub none_nowhere : any_below n t ≡ false → Nowhere n Q
  none_nowhere e k l = test_fails (same k) (not_any n t e k l)

  -- what holds in both, each in its words
  pub firstly_case : (found : ℕ → Finding) (next : Finding) (G : Finding → Type 0)
      → (LowestAt n Q (first_where n t) → G (found (first_where n t)))
      → (Nowhere n Q → G next)
      → G (firstly n t found next)
  firstly_case found next G some none = go (any_below n t) refl
    where
      go : (b : Bool) → any_below n t ≡ b → G (choose b (found (first_where n t)) next)
      go true e = some (some-lowest e)
      go false e = none (none_nowhere e)

  pub firstly-found : {k : ℕ} (found : ℕ → Finding) (next : Finding) → LowestAt n Q k → firstly n t found next ≡ found k
  firstly-found {k} found next p =
      firstly_case found next (λ x. x ≡ found k) (λ q. ap found (one-lowest q p)) (λ none. absurd (none k p.inside p.holds))

  pub firstly-next : (found : ℕ → Finding) (next : Finding) → Nowhere n Q → firstly n t found next ≡ next
  firstly-next found next none = firstly_case found next (λ x. x ≡ next) (λ p. absurd (none _ p.inside p.holds)) (λ _. refl)

-- Two lent buffers: nothing is refused exactly if each has its size; and where the second has, only the first matters.
-- Assumes nothing.
use mathlib.Core.Path.{◌≡◌, refl}
use Prim.Native.Nat.{ℕ}
use borrow.Author.Tests.{eq-eqb}
use Rattle.answers.specs.Rules.{said, refusal, AllSay, AllHold}
use Rattle.answers.specs.Lent.{lent_rules}
use Rattle.answers.proofs.Rules.{all_hold, fine}
use Rattle.answers.proofs.Same.{eq_same}
use Rattle.std.specs.Prelude.{Ok}

module _ (size lent size₂ lent₂ : ℕ) where
  pub lent_says : AllSay (lent_rules size lent size₂ lent₂)
  unfolding lent_rules AllSay
  lent_says = (eq_same lent size, (eq_same lent₂ size₂, tt))

  pub lent_sizes : refusal (lent_rules size lent size₂ lent₂) ≡ Ok tt → (lent ≡ size) × (lent₂ ≡ size₂)
  unfolding lent_rules AllHold
  lent_sizes e = let a = all_hold (lent_rules size lent size₂ lent₂) lent_says e in (a.0, a.1.0)

  pub lent_fine : lent ≡ size → lent₂ ≡ size₂ → refusal (lent_rules size lent size₂ lent₂) ≡ Ok tt
  unfolding lent_rules AllHold
  lent_fine a b = fine (lent_rules size lent size₂ lent₂) lent_says (a, (b, tt))

pub second_exact : (size lent a b : ℕ) → refusal (lent_rules size lent a a) ≡ refusal (lent_rules size lent b b)
unfolding lent_rules refusal said
second_exact size lent a b = rw (eq-eqb a a refl, eq-eqb b b refl)

-- Two tests whose numbers belong together, each of the one to its own of the other: the one holds no more often than the other.
-- Assumes nothing.
use mathlib.Core.Path.{◌≡◌, refl, ap, ◌∙◌}
use mathlib.Core.Bool.{Bool, true, false, not, ◌&&◌, and-false}
use Prim.Native.Nat.{ℕ, zero, suc, ◌+◌, ◌≤◌, ◌<◌}
use native.Mathlib.Omega.{arith}
use lib.Dec.{eqb}
use borrow.Author.Tests.{eq-eqb, ne_eqb}
use Rattle.ground.specs.Choose.{one}
use Rattle.ground.specs.Below.{count_below}
use Rattle.ground.proofs.Counting.{count_none, count_suc, count_more}

-- a number that belongs to k
pub record Match (R : ℕ → ℕ → Type 0) (m : ℕ) (u : ℕ → Bool) (k : ℕ) : Type 0 where
  pub number : ℕ
  pub inside : number < m
  pub passes : u number ≡ true
  pub belongs : R k number

but : ℕ → (ℕ → Bool) → ℕ → Bool
but j u i = u i && not (eqb i j)

module _ (m : ℕ) (u : ℕ → Bool) (j : ℕ) where
  but_others : (i : ℕ) → (i ≡ j → ⊥) → but j u i ≡ u i
  unfolding but
  but_others i n = rw (ne_eqb i j n) (and-true (u i))
    where
      and-true : (b : Bool) → (b && true) ≡ b
      and-true true = refl
      and-true false = refl

  but_less : j < m → u j ≡ true → count_below m u ≡ count_below m (but j u) + 1
  unfolding but
  but_less l e =
      count_more m (but j u) u j l (rw (eq-eqb j j refl) (and-false (u j))) (λ i _ n. but_others i n)
      ∙ ap (λ (b : Bool). count_below m (but j u) + one b) e

module _ (R : ℕ → ℕ → Type 0) (own : (k l j : ℕ) → R k j → R l j → k ≡ l) (m : ℕ) (t : ℕ → Bool) where
  -- what belongs to the last number belongs to no other
  others : (n : ℕ) (u : ℕ → Bool) (w : Match R m u n) (k : ℕ) → k < n → Match R m u k → Match R m (but w.number u) k
  others n u w k l v = record {
    number = v.number;
    inside = v.inside;
    passes = but_others m u w.number v.number (λ q. let e = own k n v.number v.belongs (rw q w.belongs) in omega arith) ∙ v.passes;
    belongs = v.belongs;
  }

  pub count_related : (n : ℕ) (u : ℕ → Bool) → ((k : ℕ) → k < n → t k ≡ true → Match R m u k) → count_below n t ≤ count_below m u
  count_related zero u f = rw (count_none 0 t (λ k l. absurd (omega arith))) (omega arith)
  count_related (suc n) u f = go (t n) refl (count_related n)
    where
      go : (b : Bool)
          → t n ≡ b
          → ((v : ℕ → Bool) → ((k : ℕ) → k < n → t k ≡ true → Match R m v k) → count_below n t ≤ count_below m v)
          → count_below (suc n) t ≤ count_below m u
      go false e ih = rw (count_suc, e) (omega (arith, ih u (λ k l p. f k (omega arith) p)))
      go true e ih =
          let w = f n (omega arith) e in
          rw (count_suc, e)
          (omega (
            arith,
            ih (but w.number u) (λ k l p. others n u w k l (f k (omega arith) p)),
            but_less m u w.number w.inside w.passes,
          ))

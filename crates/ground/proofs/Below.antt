-- What a test at each, or at some, of the numbers below n says.
-- Assumes nothing.
use mathlib.Core.Path.{◌≡◌, refl, sym, ◌∙◌}
use mathlib.Core.Logic.{⊎_elim}
use mathlib.Core.Bool.{Bool, true, false, ◌||◌, or-true, false≢true}
use Prim.Native.Nat.{ℕ, zero, suc, ◌+◌, ◌≤◌, ◌<◌}
use native.Mathlib.Decide.{ℕ_discrete}
use native.Mathlib.Nat.{not-suc-le-zero, le_of_suc-le-suc, eq-or-lt_of_le}
use native.Mathlib.Numerals.{add-one}
use native.Mathlib.Omega.{arith}
use lib.Bits.{bit_or}
use lib.Dec.{T}
use mir.Facts.{and_yes, yes_and}
use borrow.Author.Count.{below_more}
use Rattle.ground.specs.Choose.{one}
use Rattle.ground.specs.Below.{all_below, any_below}
use Rattle.ground.proofs.Tests.{same_test, one_or}

-- ---- at each

-- what holds at a number wherever it holds at those below it
pub each_below : (P : ℕ → Type 0) (n : ℕ) → ((k : ℕ) → k < n → ((j : ℕ) → j < k → P j) → P k) → (k : ℕ) → k < n → P k
each_below P zero step k l = absurd (not-suc-le-zero l)
each_below P (suc n) step k l =
    let below = each_below P n (λ i h. step i (omega arith)) in
    ⊎_elim (λ (e : k ≡ n). rw e (step n (omega arith) below)) (below k) (eq-or-lt_of_le (le_of_suc-le-suc l))

-- a test that antt computes over all numbers below n holds at each of them
pub at_below : (n : ℕ) (t : ℕ → Bool) → T (all_below n t) → (k : ℕ) → k < n → T (t k)
at_below zero t h k l = absurd (not-suc-le-zero l)
at_below (suc n) t h k l =
    below_more (λ (i : ℕ). T (t i)) n (at_below n t (and_yes (all_below n t) (t n) h).0) (and_yes (all_below n t) (t n) h).1 k
    (rw add-one l)

pub every_all : (n : ℕ) (t : ℕ → Bool) → ((k : ℕ) → k < n → T (t k)) → T (all_below n t)
every_all zero t h = tt
every_all (suc n) t h = yes_and (all_below n t) (t n) (every_all n t (λ k l. h k (omega arith))) (h n (omega arith))

-- ---- at some

pub any_some : (n : ℕ) (t : ℕ → Bool) (k : ℕ) → k < n → t k ≡ true → any_below n t ≡ true
any_some zero t k l e = absurd (not-suc-le-zero l)
any_some (suc n) t k l e =
    ⊎_elim (λ q. rw (← q, e, or-true)) (λ m. rw (any_some n t k m e))
    (eq-or-lt_of_le (le_of_suc-le-suc l))

-- and the number
pub some_any : (n : ℕ) (t : ℕ → Bool) → any_below n t ≡ true → (k : ℕ) × (k < n) × (t k ≡ true)
some_any zero t e = absurd (false≢true e)
some_any (suc n) t e = go (any_below n t) (λ q. some_any n t q) e
  where
    go : (b : Bool) → (b ≡ true → (k : ℕ) × (k < n) × (t k ≡ true)) → (b || t n) ≡ true → (k : ℕ) × (k < suc n) × (t k ≡ true)
    go true below e = let w = below refl in (w.0, omega (arith, w.1), w.2)
    go false below e = (n, omega arith, e)

pub none_any : (n : ℕ) (t : ℕ → Bool) → ((k : ℕ) → k < n → t k ≡ false) → any_below n t ≡ false
none_any zero t h = refl
none_any (suc n) t h = rw (none_any n t (λ k l. h k (omega arith)), h n (omega arith))

pub not_any : (n : ℕ) (t : ℕ → Bool) → any_below n t ≡ false → (k : ℕ) → k < n → t k ≡ false
not_any n t e k l = go (t k) refl
  where
    go : (b : Bool) → t k ≡ b → b ≡ false
    go true q = absurd (false≢true (sym e ∙ any_some n t k l q))
    go false q = refl

-- two tests that agree below n
pub any_same : (n : ℕ) (t u : ℕ → Bool) → ((k : ℕ) → k < n → t k ≡ u k) → any_below n t ≡ any_below n u
any_same zero t u h = refl
any_same (suc n) t u h = rw (any_same n t u (λ k l. h k (omega arith)), h n (omega arith))

-- a test that can hold at one number alone
pub any_only : (n : ℕ) (t : ℕ → Bool) (k : ℕ) → k < n → ((q : ℕ) → q < n → (q ≡ k → ⊥) → t q ≡ false) → any_below n t ≡ t k
any_only n t k l none = same_test (any_below n t) (t k) (λ e. go (some_any n t e)) (any_some n t k l)
  where
    go : (q : ℕ) × (q < n) × (t q ≡ true) → t k ≡ true
    go (q, m, e) = at (ℕ_discrete q k)
      where
        at : Dec (q ≡ k) → t k ≡ true
        at (yes i) = rw (← i) e
        at (no d) = absurd (false≢true (sym (none q m d) ∙ e))

-- ---- a loop that looks for one: its invariant, that none of the first k of n is one

pub record None (t : ℕ → Bool) (n k : ℕ) : Type 0 where
  pub at_most : k ≤ n
  pub none : any_below k t ≡ false

pub none_yet : (t : ℕ → Bool) (n : ℕ) → None t n 0
none_yet t n = record { at_most = omega arith; none = refl }

module _ {t : ℕ → Bool} {n k : ℕ} (so : None t n k) where
  pub found : {r : Bool} → k < n → r ≡ t k → r ≡ true → true ≡ any_below n t
  found l e q = sym (any_some n t k l (sym e ∙ q))

  pub none_more : {r : Bool} → k < n → r ≡ t k → r ≡ false → None t n (k + 1)
  none_more l e q = record { at_most = omega arith; none = rw (add-one k, so.none) (sym e ∙ q) }

  pub not_found : n ≤ k → false ≡ any_below n t
  not_found l = let q : k ≡ n = omega (arith, so.at_most) in rw (← q) (sym so.none)

-- ---- a loop that joins tests as numbers: its invariant, that r is 1 where some of the first k of n is one, else 0

pub record Some (t : ℕ → Bool) (n k r : ℕ) : Type 0 where
  pub at_most : k ≤ n
  pub some : r ≡ one (any_below k t)

pub none_some : (t : ℕ → Bool) (n : ℕ) → Some t n 0 0
none_some t n = record { at_most = omega arith; some = refl }

module _ {t : ℕ → Bool} {n k r : ℕ} (so : Some t n k r) where
  pub some_more : {x : ℕ} → k < n → x ≡ one (t k) → Some t n (k + 1) (bit_or r x)
  some_more {x} l e = record { at_most = omega arith; some = rw (add-one k, so.some, e) (one_or (any_below k t) (t k)) }

  pub some-all : n ≤ k → r ≡ one (any_below n t)
  some-all l = let q : k ≡ n = omega (arith, so.at_most) in rw (← q) so.some

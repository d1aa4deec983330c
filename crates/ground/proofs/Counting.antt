-- At how many of the numbers below n a test holds.
-- Assumes nothing.
use mathlib.Core.Path.{◌≡◌, refl, sym, ap, ◌∙◌}
use mathlib.Core.Logic.{⊎_elim}
use mathlib.Core.Bool.{Bool, true, false, not, ◌&&◌, ◌||◌}
use Prim.Native.Nat.{ℕ, zero, suc, ◌+◌, ◌≤◌, ◌<◌}
use native.Mathlib.Decide.{ℕ_discrete}
use native.Mathlib.Nat.{add-zero, not-suc-le-zero, eq-or-lt_of_le}
use native.Mathlib.Numerals.{add-one}
use native.Mathlib.Omega.{arith}
use lib.Dec.{eqb}
use borrow.Author.Tests.{ne_eqb}
use Rattle.ground.specs.Choose.{one}
use Rattle.ground.specs.Below.{any_below, count_below}
use Rattle.ground.proofs.Tests.{one_most, one-either}

pub count_same : (n : ℕ) (t u : ℕ → Bool) → ((k : ℕ) → k < n → t k ≡ u k) → count_below n t ≡ count_below n u
unfolding count_below
count_same zero t u h = refl
count_same (suc n) t u h = rw (count_same n t u (λ k l. h k (omega arith)), h n (omega arith))

pub count_none : (n : ℕ) (t : ℕ → Bool) → ((k : ℕ) → k < n → t k ≡ false) → count_below n t ≡ 0
unfolding count_below
count_none zero t h = refl
count_none (suc n) t h = rw (count_none n t (λ k l. h k (omega arith)), h n (omega arith))

pub count_all : (n : ℕ) (t : ℕ → Bool) → ((k : ℕ) → k < n → t k ≡ true) → count_below n t ≡ n
unfolding count_below
count_all zero t h = refl
count_all (suc n) t h = rw (count_all n t (λ k l. h k (omega arith)), h n (omega arith), add-one)

pub count_most : (n : ℕ) (t : ℕ → Bool) → count_below n t ≤ n
unfolding count_below
count_most zero t = omega arith
count_most (suc n) t = omega (arith, count_most n t, one_most (t n))

-- one place further
pub count_suc : (n : ℕ) (t : ℕ → Bool) → count_below (suc n) t ≡ count_below n t + one (t n)
unfolding count_below
count_suc n t = refl

-- the places below k are no more than those below n
pub count_mono : (t : ℕ → Bool) (k n : ℕ) → k ≤ n → count_below k t ≤ count_below n t
unfolding count_below
count_mono t k zero h = let e : k ≡ 0 = omega arith in rw e (omega arith)
count_mono t k (suc n) h =
    ⊎_elim (λ e. rw e (omega arith)) (λ l. let ih : count_below k t ≤ count_below n t = count_mono t k n (omega arith) in omega arith)
    (eq-or-lt_of_le h)

-- a place at which the test holds is among those counted
pub count_below_lem : (t : ℕ → Bool) (k n : ℕ) → k < n → t k ≡ true → count_below k t < count_below n t
unfolding count_below
count_below_lem t k n l e =
    let h : count_below (suc k) t ≤ count_below n t = count_mono t (suc k) n l in
    omega (arith, simp e at h)

-- one more, at k, where the test did not hold before
pub count_more : (n : ℕ) (t u : ℕ → Bool) (k : ℕ)
    → k < n
    → t k ≡ false
    → ((q : ℕ) → q < n → (q ≡ k → ⊥) → t q ≡ u q)
    → count_below n u ≡ count_below n t + one (u k)
unfolding count_below
count_more zero t u k l e same = absurd (not-suc-le-zero l)
count_more (suc n) t u k l e same = go (ℕ_discrete n k) (λ m. count_more n t u k m e (λ q ql. same q (omega arith)))
  where
    go : Dec (n ≡ k) → (k < n → count_below n u ≡ count_below n t + one (u k)) → count_below n u + one (u n) ≡ (count_below n t + one (t n)) + one (u k)
    go (yes q) ih =
        let here : t n ≡ false = ap t q ∙ e in
        let below : count_below n t ≡ count_below n u = count_same n t u (λ j l. same j (omega arith) (omega arith)) in
        rw (here, below, q) (omega arith)
    go (no d) ih = rw (same n (omega arith) d) (omega (arith, ih (omega arith)))

-- two tests that hold equally often below n, and agree there but perhaps at k, agree at k
pub one_test_lem : (n : ℕ) (t u : ℕ → Bool) (k : ℕ) → k < n → ((q : ℕ) → q < n → (q ≡ k → ⊥) → t q ≡ u q) → count_below n t ≡ count_below n u → t k ≡ u k
one_test_lem n t u k l same e = go (t k) (u k) refl refl
  where
    go : (x y : Bool) → t k ≡ x → u k ≡ y → x ≡ y
    go true true p q = refl
    go true false p q = absurd (omega (arith, rw p at (count_more n u t k l q (λ j m d. sym (same j m d)))))
    go false true p q = absurd (omega (arith, rw q at (count_more n t u k l p same)))
    go false false p q = refl

-- where never both hold, those at which either does are those of the one and those of the other
pub count_either : (n : ℕ) (t u : ℕ → Bool) → ((k : ℕ) → (t k && u k) ≡ false) → count_below n (λ k. t k || u k) ≡ count_below n t + count_below n u
unfolding count_below
count_either zero t u h = refl
count_either (suc n) t u h = omega (arith, count_either n t u h, one-either (t n) (u n) (h n))

-- the number that passes before which j others do
pub record Nth (t : ℕ → Bool) (n j : ℕ) : Type 0 where
  pub place : ℕ
  pub below : place < n
  pub passes : t place ≡ true
  pub before : count_below place t ≡ j

pub nth : (t : ℕ → Bool) (n j : ℕ) → j < count_below n t → Nth t n j
unfolding count_below
nth t zero j l = absurd (not-suc-le-zero l)
nth t (suc n) j l = go (ℕ_discrete (count_below n t) j) (t n) refl l (nth t n j)
  where
    go : Dec (count_below n t ≡ j) → (b : Bool) → t n ≡ b → j < count_below n t + one b → (j < count_below n t → Nth t n j) → Nth t (suc n) j
    go (yes q) true e l ih = record { place = n; below = omega arith; passes = e; before = q }
    go (yes q) false e l ih = absurd (omega arith)
    go (no q) b e l ih =
        let w = ih (omega (arith, one_most b)) in
        record { place = w.place; below = omega (arith, w.below); passes = w.passes; before = w.before }

-- at some place is: not at none
pub any_count : (n : ℕ) (t : ℕ → Bool) → any_below n t ≡ not (eqb (count_below n t) 0)
unfolding count_below
any_count zero t = refl
any_count (suc n) t = go (any_below n t) (t n) (count_below n t) (any_count n t)
  where
    go : (b x : Bool) (c : ℕ) → b ≡ not (eqb c 0) → (b || x) ≡ not (eqb (c + one x) 0)
    go true true c e = rw (ne_eqb (c + 1) 0 (omega arith))
    go false true c e = rw (ne_eqb (c + 1) 0 (omega arith))
    go true false c e = rw (add-zero c) e
    go false false c e = rw (add-zero c) e

-- ---- a loop that counts: its invariant, that r is how many of the first k of n

pub record Sum (t : ℕ → Bool) (n k r : ℕ) : Type 0 where
  pub at_most : k ≤ n
  pub sum : r ≡ count_below k t

pub no_sum : (t : ℕ → Bool) (n : ℕ) → Sum t n 0 0
unfolding count_below
no_sum t n = record { at_most = omega arith; sum = refl }

module _ {t : ℕ → Bool} {n k r : ℕ} (so : Sum t n k r) where
  pub sum_small : r ≤ n
  sum_small = omega (arith, so.at_most, so.sum, count_most k t)

  pub sum_more : {x : ℕ} → k < n → x ≡ one (t k) → Sum t n (k + 1) (r + x)
  unfolding count_below
  sum_more {x} l e = record { at_most = omega arith; sum = rw (add-one k, so.sum, e) }

  pub sum_all : n ≤ k → r ≡ count_below n t
  sum_all l = let q : k ≡ n = omega (arith, so.at_most) in rw (← q) so.sum

-- What stands in a list of the numbers that pass a test: entry j belongs to the number before which j others pass.
-- Assumes nothing.
use mathlib.Core.Path.{◌≡◌, sym, ap, ◌∙◌}
use mathlib.Core.Logic.{⊎_elim}
use mathlib.Core.Bool.{Bool, true, false}
use mathlib.Core.List.{[], ◌∷◌, ◌++◌, append-nil}
use Prim.Native.Nat.{ℕ, suc, ◌+◌, ◌<◌}
use native.Mathlib.Omega.{arith}
use lib.ListN.{length, get_or}
use Rattle.ground.specs.Choose.{choose}
use Rattle.ground.specs.Below.{count_below}
use Rattle.ground.specs.Lists.{collect}
use Rattle.ground.proofs.Tests.{either}
use Rattle.ground.proofs.Gather.{gather_place}
use Rattle.ground.proofs.Counting.{count_below_lem, Nth, nth}
use Rattle.ground.proofs.Lists.{collect-length}

-- ---- one number more
pub collect_yes : (test : ℕ → Bool) (f : ℕ → ℕ) (n : ℕ) → test n ≡ true → collect test f (suc n) ≡ collect test f n ++ (f n ∷ [])
unfolding collect
collect_yes test f n e = rw e

pub collect-no : (test : ℕ → Bool) (f : ℕ → ℕ) (n : ℕ) → test n ≡ false → collect test f (suc n) ≡ collect test f n
unfolding collect
collect-no test f n e = rw (e, append-nil)

-- a number that passes stands after those below it that pass
pub collect_get : (test : ℕ → Bool) (f : ℕ → ℕ) (n k : ℕ) → k < n → test k ≡ true → get_or (collect test f n) (count_below k test) 0 ≡ f k
unfolding collect
collect_get test f n k l e =
    let at : count_below k test ≡ length (collect test f k) + 0 = omega (arith, collect-length test f k) in
    rw at (gather_place (λ i. choose (test i) (f i ∷ []) []) 0 n k 0 l (rw e (omega arith)) ∙ ap (λ (b : Bool). get_or (choose b (f k ∷ []) []) 0 0) e)

-- two numbers that pass, with as many below the one as below the other, are one
pub count_one : (test : ℕ → Bool) (k l : ℕ) → test k ≡ true → test l ≡ true → count_below k test ≡ count_below l test → k ≡ l
count_one test k l p q e =
    ⊎_elim
    (λ h. absurd (omega (arith, count_below_lem test k l h p)))
    (λ h. ⊎_elim (λ g. absurd (omega (arith, count_below_lem test l k g q))) (λ g. omega arith) (either l k))
    (either k l)

-- what stands at a place
pub collect_nth : (test : ℕ → Bool) (f : ℕ → ℕ) (n j : ℕ) (w : Nth test n j) → get_or (collect test f n) j 0 ≡ f w.place
collect_nth test f n j w =
    ap (λ (i : ℕ). get_or (collect test f n) i 0) (sym w.before) ∙ collect_get test f n w.place w.below w.passes

-- a bound of what is collected
pub collect_below : (test : ℕ → Bool) (f : ℕ → ℕ) (n m : ℕ)
    → ((k : ℕ) → k < n → test k ≡ true → f k < m)
    → (j : ℕ) → j < length (collect test f n) → get_or (collect test f n) j 0 < m
collect_below test f n m h j l =
    let w = nth test n j (omega (arith, collect-length test f n)) in
    rw (collect_nth test f n j w) (h w.place w.below w.passes)

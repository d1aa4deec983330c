-- The lowest of the places that fail a test: it is one of them, and none is lower.
-- Assumes nothing.
use mathlib.Core.Path.{◌≡◌, refl, ◌∙◌}
use mathlib.Core.Logic.{⊎_elim}
use mathlib.Core.Bool.{Bool, true, false}
use mathlib.Core.List.{List}
use Prim.Native.Nat.{ℕ, zero, suc, ◌+◌, ◌≤◌, ◌<◌, min}
use native.Mathlib.Nat.{eq-or-lt_of_le, le_of_suc-le-suc, not-suc-le-zero}
use native.Mathlib.Decide.{dec_lt}
use native.Mathlib.Numerals.{add-one}
use native.Mathlib.Omega.{arith}
use lib.ListN.{get_or}
use Rattle.ground.specs.Choose.{choose}
use Rattle.names.specs.Owed.{lowest}

module _ (f : ℕ → Bool) (l : List ℕ) where
  -- none that fails is lower
  pub lowest-least : (n k : ℕ) → k < n → f k ≡ true → lowest f l n ≤ get_or l k 0
  unfolding lowest
  lowest-least zero k h e = absurd (not-suc-le-zero h)
  lowest-least (suc n) k h e =
      ⊎_elim (λ q. rw (← q, e) (omega arith)) (λ g. go (f n) (lowest-least n k g e)) (eq-or-lt_of_le (le_of_suc-le-suc h))
    where
      go : (b : Bool) → lowest f l n ≤ get_or l k 0 → choose b (min (get_or l n 0) (lowest f l n)) (lowest f l n) ≤ get_or l k 0
      go true i = omega arith
      go false i = i

  -- one that fails, at r
  abbrev pub Fails : ℕ → ℕ → Type 0
  Fails n r = (k : ℕ) × (k < n) × (f k ≡ true) × (r ≡ get_or l k 0)

  -- it is one that fails, unless it is 65,535
  pub lowest-one : (n : ℕ) → lowest f l n < 65535 → Fails n (lowest f l n)
  unfolding lowest
  lowest-one zero h = absurd (omega arith)
  lowest-one (suc n) h = go (f n) refl h (lowest-one n)
    where
      more : {r s : ℕ} → s ≡ r → Fails n r → Fails (suc n) s
      more q (k, i, e, p) = (k, omega arith, e, q ∙ p)

      go : (b : Bool)
          → f n ≡ b
          → choose b (min (get_or l n 0) (lowest f l n)) (lowest f l n) < 65535
          → (lowest f l n < 65535 → Fails n (lowest f l n))
          → Fails (suc n) (choose b (min (get_or l n 0) (lowest f l n)) (lowest f l n))
      go true e i ih = or (dec_lt (lowest f l n) (get_or l n 0))
        where
          or : Dec (lowest f l n < get_or l n 0) → Fails (suc n) (min (get_or l n 0) (lowest f l n))
          or (no q) = (n, omega arith, e, omega arith)
          or (yes q) = more (omega arith) (ih (omega arith))
      go false e i ih = more refl (ih i)

  pub lowest_most : (n : ℕ) → lowest f l n ≤ 65535
  unfolding lowest
  lowest_most zero = omega arith
  lowest_most (suc n) = go (f n) (lowest_most n)
    where
      go : (b : Bool) → lowest f l n ≤ 65535 → choose b (min (get_or l n 0) (lowest f l n)) (lowest f l n) ≤ 65535
      go true i = omega arith
      go false i = i

  -- ---- a loop that looks for it

  pub lowest-more : (n : ℕ) → lowest f l (n + 1) ≡ choose (f n) (min (get_or l n 0) (lowest f l n)) (lowest f l n)
  unfolding lowest
  lowest-more n = rw (add-one n)

  pub lowest_none : lowest f l 0 ≡ 65535
  unfolding lowest
  lowest_none = refl

-- When a gate is ready, and what changes when one more is placed.
-- Assumes nothing.
use mathlib.Core.Path.{◌≡◌}
use mathlib.Core.Logic.{⊎_elim}
use mathlib.Core.Bool.{true, false, not, ◌&&◌}
use mathlib.Core.List.{List, [], ◌∷◌, ◌++◌}
use Prim.Native.Nat.{ℕ}
use lib.ListN.{length, get_or}
use borrow.Author.Tests.{lt-leb, not-true}
use Rattle.ground.specs.Lists.{elem}
use Rattle.ground.proofs.Tests.{both}
use Rattle.ground.proofs.Lists.{elem_other}
use Rattle.order.specs.Order.{there, ready, Source}

-- a gate that is ready is not placed
pub ready_new : (a b p : List ℕ) (g : ℕ) → ready a b p g ≡ true → elem p g ≡ false
unfolding ready
ready_new a b p g e = not-true (elem p g) (both (not (elem p g)) (there (length a) p (get_or a g 0) && there (length a) p (get_or b g 0)) e).0

-- and the gates that are its sources are
pub ready_sources : (a b p : List ℕ) (g s : ℕ) → ready a b p g ≡ true → Source a b g s → elem p s ≡ true
unfolding ready there
ready_sources a b p g s e r =
    let t = (both (not (elem p g)) (there (length a) p (get_or a g 0) && there (length a) p (get_or b g 0)) e).1 in
    let u = both (there (length a) p (get_or a g 0)) (there (length a) p (get_or b g 0)) t in
    ⊎_elim (λ q. placed (rw q at u.0)) (λ q. placed (rw q at u.1)) r.is
  where
    placed : there (length a) p s ≡ true → elem p s ≡ true
    placed t = simp (lt-leb (length a) s r.gate) at t

-- a gate that is placed is not ready
pub placed_done : (a b p : List ℕ) (g : ℕ) → elem p g ≡ true → ready a b p g ≡ false
unfolding ready
placed_done a b p g e = rw e

-- ---- c is placed

there_other : (gates : ℕ) (p : List ℕ) (c s : ℕ) → (c ≡ s → ⊥) → there gates (p ++ (c ∷ [])) s ≡ there gates p s
unfolding there
there_other gates p c s n = rw (elem_other p c s n)

-- another gate that does not have it as a source is ready as before
pub ready_other : (a b p : List ℕ) (c h : ℕ) → (c ≡ h → ⊥) → (c ≡ get_or a h 0 → ⊥) → (c ≡ get_or b h 0 → ⊥) → ready a b (p ++ (c ∷ [])) h ≡ ready a b p h
unfolding ready
ready_other a b p c h n na nb =
    rw (elem_other p c h n, there_other (length a) p c (get_or a h 0) na, there_other (length a) p c (get_or b h 0) nb)

-- Marks at the gates that are placed: a gate is ready by the marks exactly if it is ready.
-- Assumes nothing.
use mathlib.Core.Path.{◌≡◌, refl}
use mathlib.Core.Bool.{Bool, true, false, not, ◌||◌}
use mathlib.Core.List.{List}
use Prim.Native.Nat.{ℕ, ◌<◌}
use native.Mathlib.Decide.{dec_lt}
use native.Mathlib.Omega.{arith}
use lib.Dec.{eqb, leb}
use lib.ListN.{length, get_or}
use borrow.Author.Tests.{le-leb}
use Rattle.ground.specs.Choose.{one}
use Rattle.ground.specs.Lists.{elem}
use Rattle.ground.proofs.Tests.{one-is}
use Rattle.order.specs.Order.{there, ready}
use Rattle.order.specs.Owed.{there_by, ready_by}

-- placed has a mark at each gate of p
abbrev pub Marks : ℕ → List ℕ → List ℕ → Type 0
Marks gates placed p = (g : ℕ) → g < gates → get_or placed g 0 ≡ one (elem p g)

zero_one : (t : Bool) → eqb (one t) 0 ≡ not t
zero_one true = refl
zero_one false = refl

there-same : (placed p : List ℕ) (s : ℕ) → Marks (length placed) placed p → there_by placed s ≡ there (length placed) p s
unfolding there_by there
there-same placed p s m = go (dec_lt s (length placed))
  where
    go : Dec (s < length placed) → (leb (length placed) s || eqb (get_or placed s 0) 1) ≡ (leb (length placed) s || elem p s)
    go (yes l) = rw (m s l, one-is (elem p s))
    go (no n) = rw (le-leb (length placed) s (omega arith))

pub ready-same : (a b placed p : List ℕ) (g : ℕ) → length placed ≡ length a → Marks (length a) placed p → g < length a → ready_by a b placed g ≡ ready a b p g
unfolding ready_by ready
ready-same a b placed p g e m l =
    let m' : Marks (length placed) placed p = λ h k. m h (omega arith) in
    rw (there-same placed p (get_or a g 0) m', there-same placed p (get_or b g 0) m', m g l, zero_one (elem p g), e)

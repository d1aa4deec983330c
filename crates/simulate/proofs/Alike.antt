-- A forcing of values and one of truths that do the same: of the good circuit, and of a fault.
-- Assumes nothing.
use mathlib.Core.Path.{◌≡◌, refl}
use mathlib.Core.Bool.{Bool, true, false, ◌&&◌}
use Prim.Native.Nat.{ℕ, ◌≤◌}
use lib.Dec.{eqb}
use Rattle.ground.specs.Choose.{choose, one}
use Rattle.ground.proofs.Tests.{bit_one}
use Rattle.lists.specs.declared.Fault.{Fault}
use Rattle.simulate.specs.Simulate.{Forcing, unforced, stuck_at}
use Rattle.simulate.specs.Boolean.{Truths, good, faulty}

abbrev pub Alike : Forcing → Truths → Type 0
Alike f t = (k s : ℕ) (b : Bool) → f k s (one b) ≡ one (t k s b)

pub good_alike : Alike unforced good
good_alike k s b = refl

pub faulty_alike : (fault : Fault) → fault.value ≤ 1 → Alike (stuck_at fault) (faulty fault)
unfolding stuck_at faulty
faulty_alike fault h k s b = go (eqb k fault.line && eqb s fault.site)
  where
    go : (t : Bool) → choose t fault.value (one b) ≡ one (choose t (eqb fault.value 1) b)
    go true = bit_one fault.value h
    go false = refl

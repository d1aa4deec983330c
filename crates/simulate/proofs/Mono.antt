-- Forcings that make nothing known unknown or other: neither the good circuit nor a fault does.
-- Assumes nothing.
use mathlib.Core.Path.{refl}
use mathlib.Core.Bool.{Bool, true, false, ◌&&◌}
use Prim.Native.Nat.{ℕ}
use lib.Dec.{eqb}
use Rattle.ground.specs.Choose.{choose}
use Rattle.gates.specs.Gate.{Refines}
use Rattle.lists.specs.declared.Fault.{Fault}
use Rattle.simulate.specs.Simulate.{Forcing, unforced, stuck_at}

abbrev pub Monotone : Forcing → Type 0
Monotone f = (k s x y : ℕ) → Refines x y → Refines (f k s x) (f k s y)

pub unforced_mono : Monotone unforced
unforced_mono k s x y h = h

pub stuck_mono : (fault : Fault) → Monotone (stuck_at fault)
unfolding stuck_at
stuck_mono fault k s x y h = go (eqb k fault.line && eqb s fault.site)
  where
    go : (b : Bool) → Refines (choose b fault.value x) (choose b fault.value y)
    go true = λ _. refl
    go false = h

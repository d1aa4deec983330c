-- The good circuit keeps values below whatever bound, a faulty one below a bound on the stuck value.
-- Assumes nothing.
use mathlib.Core.Bool.{Bool, true, false, ◌&&◌}
use Prim.Native.Nat.{ℕ, ◌<◌}
use lib.Dec.{eqb}
use Rattle.ground.specs.Choose.{choose}
use Rattle.lists.specs.declared.Fault.{Fault}
use Rattle.simulate.specs.Simulate.{unforced, stuck_at}
use Rattle.simulate.specs.Owed.{Keeps}

pub unforced_keeps : (b : ℕ) → Keeps b unforced
unforced_keeps b k s x h = h

pub stuck_keeps : (b : ℕ) (fault : Fault) → fault.value < b → Keeps b (stuck_at fault)
unfolding stuck_at
stuck_keeps b fault h k s x g = go (eqb k fault.line && eqb s fault.site)
  where
    go : (t : Bool) → choose t fault.value x < b
    go true = h
    go false = g

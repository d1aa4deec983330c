-- What two pins see can be multiplied and is not rounded.
-- Assumes nothing.
use mathlib.Core.Bool.{Bool}
use Prim.Native.Nat.{◌+◌, ◌≤◌}
use native.Mathlib.Omega.{arith}
use Rattle.halves.specs.Half.{least}
use Rattle.chances.specs.declared.Chances.{Chances}
use Rattle.chances.specs.Exponents.{Exponents}
use Rattle.chances.specs.Owed.{Seen}

pub together : {p q : Chances} {e f : Exponents} → Seen p e → Seen q f → (v w : Bool) → e v + f w ≤ least
together p q v w = omega (arith, p.few v, q.few w)

-- `suspect_areas::begins` meets its contract: the first byte that differs decides.
-- Assumes nothing.
use mathlib.Core.Path.{refl, sym, ap}
use mathlib.Core.Bool.{not}
use native.Mathlib.Omega.{arith}
use borrow.Author.Tests.{eq-eqb, ne_eqb}
use Rattle.ground.proofs.Below.{none_yet, none_more, found, not_found}
use Rattle.suspect_areas.proofs.begins.Goals as goal

pub loop-i-init : goal.loop-i-init
loop-i-init c = none_yet _ _

pub returns-then-a-i : goal.returns-then-a-i
returns-then-a-i c = ap not (found c.loop-i.invariant (omega arith) (sym (ap not (ne_eqb _ _ c.if-a-i.true))) refl)

pub loop-i-preserved : goal.loop-i-preserved
loop-i-preserved c = none_more c.loop-i.invariant (omega arith) (sym (ap not (eq-eqb _ _ c.if-a-i.false))) refl

pub returns : goal.returns
returns c = ap not (not_found c.loop-i.invariant (omega arith))

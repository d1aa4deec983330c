-- `statements::put_kinds` meets its contract: the lines are taken one after the other, and a gate's kind stays.
-- Assumes nothing.
use Rattle.statements.proofs.Filling.{begun, more, so_many_are}
use Rattle.statements.specs.Tables.{kinds_of}
use Rattle.ground.specs.Choose.{choose}
use Prim.Native.Nat.{ℕ}
use mathlib.Core.Bool.{Bool, true}
use mathlib.Core.Path.{◌≡◌, ap, ◌∙◌}
use native.Mathlib.Omega.{arith}
use Rattle.statements.proofs.put_kinds.Goals as goal

chosen : (b : Bool) {r : ℕ} (x : ℕ) → r ≡ choose b x 0 → b ≡ true → r ≡ x
chosen b x e q = e ∙ ap (λ (i : Bool). choose i x 0) q

pub loop-k-init : goal.loop-k-init
loop-k-init c = begun _ c.requires.for_kinds

pub loop-k-preserved : goal.loop-k-preserved
loop-k-preserved c =
    more c.loop-k.invariant (omega arith)
    (chosen _ _ c.kind_in.ensures)
    c.from-g.ensures

pub returns : goal.returns
unfolding kinds_of
returns c = so_many_are c.loop-k.invariant (omega arith)

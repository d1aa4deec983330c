-- `halves::share` meets its contract.
-- Assumes nothing.
use mathlib.Core.Path.{ap, sym, ◌∙◌}
use mathlib.Core.Bool.{Bool}
use Rattle.ground.specs.Choose.{one}
use Rattle.halves.specs.Half.{half}
use Rattle.halves.proofs.Laws.{half_is, one-is}
use Rattle.halves.proofs.share.Goals as goal

pub returns-then-branches : goal.returns-then-branches
returns-then-branches c = half_is ∙ ap (λ (b : Bool). half (one b)) (sym c.if-branches.true)

pub returns-else-branches : goal.returns-else-branches
returns-else-branches c = one-is ∙ ap (λ (b : Bool). half (one b)) (sym c.if-branches.false)

-- `halves::larger` meets its contract.
-- Assumes nothing.
use mathlib.Core.Path.{sym, ap, ap₂, ◌∙◌}
use lib.Ieee.{lt}
use Rattle.halves.specs.Half.{half}
use Rattle.halves.proofs.Laws.{lt-half, smaller_first, smaller_second}
use Rattle.halves.proofs.larger.Goals as goal

pub returns-then-a-b : goal.returns-then-a-b
returns-then-a-b c = λ x y p q. q ∙ ap half (sym (smaller_second x y (sym (lt-half x y) ∙ ap₂ lt (sym p) (sym q) ∙ c.if-a-b.true)))

pub returns-else-a-b : goal.returns-else-a-b
returns-else-a-b c = λ x y p q. p ∙ ap half (sym (smaller_first x y (sym (lt-half x y) ∙ ap₂ lt (sym p) (sym q) ∙ c.if-a-b.false)))

-- `halves::floored` meets its contract.
-- Assumes nothing.
use mathlib.Core.Path.{sym, ap, ap₂, ◌∙◌}
use native.Mathlib.Nat.{min_comm}
use lib.Ieee.{lt}
use Rattle.halves.specs.Half.{half, floor_exponent}
use Rattle.halves.proofs.Laws.{lt-half, smaller_first, smaller_second, floor_is}
use Rattle.halves.proofs.floored.Goals as goal

pub returns-then-a : goal.returns-then-a
returns-then-a c =
    λ x p. floor_is ∙ ap half (sym (min_comm floor_exponent x ∙ smaller_second x floor_exponent (sym (lt-half x floor_exponent) ∙ ap₂ lt (sym p) (sym floor_is) ∙ c.if-a.true)))

pub returns-else-a : goal.returns-else-a
returns-else-a c =
    λ x p. p ∙ ap half (sym (min_comm floor_exponent x ∙ smaller_first x floor_exponent (sym (lt-half x floor_exponent) ∙ ap₂ lt (sym p) (sym floor_is) ∙ c.if-a.false)))

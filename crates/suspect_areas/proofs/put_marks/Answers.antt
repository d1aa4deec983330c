-- `suspect_areas::put_marks` meets its contract: a front part of the marks is copied.
-- Assumes nothing.
use mathlib.Core.Path.{ap, ◌∙◌}
use Prim.Native.Nat.{ℕ}
use lib.ListN.{take}
use Rattle.suspect_areas.proofs.put_marks.Goals as goal

pub returns : goal.returns
returns c = c.copy_from_slice.ensures.after ∙ ap (λ (n : ℕ). take n c.args.state.marks) c.requires.0

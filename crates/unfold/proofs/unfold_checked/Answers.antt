-- `unfold::unfold_checked` meets its contract: a buffer of another size is refused, else the records are written.
-- Assumes nothing.
use native.Mathlib.Omega.{arith}
use Rattle.unfold.proofs.Whole.{lines_after_lem, few_after}
use Rattle.unfold.proofs.Answer.{room_refused, room_fine}
use Rattle.unfold.proofs.unfold_checked.Goals as goal

pub overflow_mul-lines : goal.overflow_mul-lines
overflow_mul-lines c = omega (arith, few_after c.requires)

pub overflow_mul-lines-2 : goal.overflow_mul-lines-2
overflow_mul-lines-2 c = omega (arith, few_after c.requires)

pub returns-then-buffer-lines : goal.returns-then-buffer-lines
returns-then-buffer-lines c = room_refused _ _ _ _ (lines_after_lem c.requires) (λ e. omega arith)

pub unfold_lines-requires : goal.unfold_lines-requires
unfold_lines-requires c =
    record { ready = c.requires; room = rw (← c.requires.lines) (omega arith) }

pub returns : goal.returns
returns c =
    room_fine _ _ _ _ (lines_after_lem c.requires) (omega arith) c.unfold_lines.ensures

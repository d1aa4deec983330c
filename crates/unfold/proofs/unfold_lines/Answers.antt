-- `unfold::unfold_lines` meets its contract: memory for as many marks as there are lines is lent, with none set.
-- Assumes nothing.
use mathlib.Core.Path.{sym}
use Rattle.ground.proofs.Filled.{take-replicate, filled_at, front_length}
use Rattle.unfold.proofs.Whole.{few_lines}
use Rattle.unfold.proofs.unfold_lines.Goals as goal

pub slice_bounds-marks-end : goal.slice_bounds-marks-end
slice_bounds-marks-end c = few_lines c.requires.ready

pub slice_bounds-unfold_lines_in-end : goal.slice_bounds-unfold_lines_in-end
slice_bounds-unfold_lines_in-end c = sym (front_length 2048 0 _ (few_lines c.requires.ready))

pub unfold_lines_in-requires : goal.unfold_lines_in-requires
unfold_lines_in-requires c =
    let few = few_lines c.requires.ready in
    record {
      all = c.requires;
      marks_long = front_length 2048 0 c.args.n few;
      unset = λ m. rw (take-replicate 2048 c.args.n 0 few) (filled_at c.args.n 0 m);
    }

-- `unfold::unfold_lines_in` meets its contract: the data lines are marked, the records written.
-- Assumes nothing.
use Rattle.unfold.proofs.Whole.{not-marked, are_marked}
use Rattle.unfold.proofs.unfold_lines_in.Goals as goal

pub mark_data-requires : goal.mark_data-requires
mark_data-requires c = not-marked c.requires

pub put_steps-requires : goal.put_steps-requires
put_steps-requires c =
    (are_marked c.requires c.mark_data.auto.marks c.mark_data.ensures, c.requires.all.room)

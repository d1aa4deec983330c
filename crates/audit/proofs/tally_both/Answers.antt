-- `audit::tally_both` meets its contract: what the two tallies leave is what is asked for to look.
-- Assumes nothing.
use mathlib.Core.Path.{sym, ◌∙◌}
use Rattle.ground.proofs.Filled.{filled-length}
use Rattle.tallies.proofs.Tallies.{started, room_after}
use Rattle.audit.proofs.tally_both.Goals as goal

pub tally-requires : goal.tally-requires
tally-requires c =
    let start = started c.requires.cleared.0 c.requires.sized in
    record { tally_room = start.0; zeros = start.1; marks_len = c.requires.marks_ready.size }

pub tally-requires-2 : goal.tally-requires-2
tally-requires-2 c =
    let start = started c.requires.cleared.1 c.requires.sized in
    record { tally_room = start.0; zeros = start.1; marks_len = c.requires.marks_ready.size }

pub slice_bounds-find-end : goal.slice_bounds-find-end
slice_bounds-find-end c =
    sym (c.tally.auto.seen ∙ filled-length 256 0)

pub slice_bounds-find-end-2 : goal.slice_bounds-find-end-2
slice_bounds-find-end-2 c = sym (c.tally-2.auto.seen ∙ filled-length 256 0)

pub find-requires : goal.find-requires
find-requires c =
    let k = c.tally in
    let d = c.tally-2 in
    record {
      kept_room = room_after _ _ (started c.requires.cleared.0 c.requires.sized).0 k.auto.counts k.auto.seen;
      dropped_room = room_after _ _ (started c.requires.cleared.1 c.requires.sized).0 d.auto.counts d.auto.seen;
      marks = c.requires.marks_ready;
      kept_tally = k.ensures;
      dropped_tally = d.ensures;
    }

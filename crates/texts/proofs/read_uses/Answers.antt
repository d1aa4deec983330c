-- `texts::read_uses` meets its contract: room for the kinds and the names that are used is lent.
-- Assumes nothing.
use Rattle.ground.proofs.Filled.{filled-length}
use mathlib.Core.Path.{sym}
use Rattle.texts.proofs.read_uses.Goals as goal

pub slice_bounds-read_uses_in-end : goal.slice_bounds-read_uses_in-end
slice_bounds-read_uses_in-end c = sym (filled-length 8193 0)

pub slice_bounds-read_uses_in-end-2 : goal.slice_bounds-read_uses_in-end-2
slice_bounds-read_uses_in-end-2 c = sym (filled-length 8193 0)

pub slice_bounds-read_uses_in-end-3 : goal.slice_bounds-read_uses_in-end-3
slice_bounds-read_uses_in-end-3 c = sym (filled-length 8193 0)

pub slice_bounds-read_uses_in-end-4 : goal.slice_bounds-read_uses_in-end-4
slice_bounds-read_uses_in-end-4 c = sym (filled-length 8193 0)

pub read_uses_in-requires : goal.read_uses_in-requires
read_uses_in-requires c =
    let room = filled-length 8193 0 in record { read_uses_ready = c.requires; kinds_len = (room, room, room, room) }

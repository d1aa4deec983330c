-- `bench::read_defs` meets its contract: room for the names that are defined and their numbers is lent.
-- Assumes nothing.
use Rattle.ground.proofs.Filled.{filled-length, front_length}
use Rattle.texts.proofs.Steps.{gates_few}
use mathlib.Core.Path.{sym}
use Rattle.bench.proofs.read_defs.Goals as goal

pub slice_bounds-read_defs_in-end : goal.slice_bounds-read_defs_in-end
slice_bounds-read_defs_in-end c = sym (filled-length 8193 0)

pub slice_bounds-read_defs_in-end-2 : goal.slice_bounds-read_defs_in-end-2
slice_bounds-read_defs_in-end-2 c = sym (filled-length 8193 0)

pub slice_bounds-order-end : goal.slice_bounds-order-end
slice_bounds-order-end c = let p = c.requires.read_defs_ready in gates_few p.0 p.1

pub slice_bounds-read_defs_in-end-3 : goal.slice_bounds-read_defs_in-end-3
slice_bounds-read_defs_in-end-3 c = let p = c.requires.read_defs_ready in sym (front_length 8192 0 _ (gates_few p.0 p.1))

pub read_defs_in-requires : goal.read_defs_in-requires
read_defs_in-requires c =
    let room = filled-length 8193 0 in
    record { read_defs_ready = c.requires.read_defs_ready; defs_len = (room, room, front_length 8192 0 _ (gates_few c.requires.read_defs_ready.0 c.requires.read_defs_ready.1), c.requires.places_len) }

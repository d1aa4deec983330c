-- `places::put_places` meets its contract: memory for the definition of each number is lent.
-- Assumes nothing.
use mathlib.Core.Path.{sym}
use Rattle.ground.proofs.Filled.{front_length}
use Rattle.places.proofs.put_places.Goals as goal

pub slice_bounds-def-end : goal.slice_bounds-def-end
slice_bounds-def-end c = c.requires.few

pub slice_bounds-put_places_in-end : goal.slice_bounds-put_places_in-end
slice_bounds-put_places_in-end c = sym (front_length 2048 0 _ c.requires.few)

pub put_places_in-requires : goal.put_places_in-requires
put_places_in-requires c = let p = c.requires in record { fits = p; for_defs = front_length 2048 0 _ p.few }

pub returns : goal.returns
returns c = c.put_places_in.ensures

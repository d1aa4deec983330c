-- `places::put_places_in` meets its contract. The invariant: the places of the lines below k are written.
-- Assumes nothing.
use Rattle.ground.proofs.Put.{Partly}
use Rattle.places.specs.Owed.{places_by}
use Rattle.places.proofs.put_places_in.Given as goal

abbrev pub invariant-loop-k : goal.invariant-loop-k
invariant-loop-k l = Partly (places_by l.defs l.numbers l.order) l.initial.places 0 l.places l.k

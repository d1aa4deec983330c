-- `bench::read_placed` meets its contract: where nothing is refused, the places of the names are written.
-- Assumes nothing.
use Rattle.bench.proofs.Places.{places_ready, placed}
use Rattle.bench.proofs.read_placed.Goals as goal

pub put_places-requires : goal.put_places-requires
put_places-requires c = places_ready c.requires.read_uses_ready.defined c.read_uses.ensures c.in_ok-n.was c.requires.places_len

pub returns : goal.returns
returns c = placed c.requires.read_uses_ready.defined c.read_uses.ensures c.in_ok-n.was c.put_places.ensures

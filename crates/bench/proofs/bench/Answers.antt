-- `bench::bench` meets its contract: room for the places of the names is lent, and then forgotten.
-- Assumes nothing.
use Rattle.ground.proofs.Filled.{filled-length}
use Rattle.bench.proofs.Answer.{reads}
use mathlib.Core.Path.{sym}
use Rattle.bench.proofs.bench.Goals as goal

pub slice_bounds-read_text-end : goal.slice_bounds-read_text-end
slice_bounds-read_text-end c = sym (filled-length 2048 0)

pub read_text-requires : goal.read_text-requires
read_text-requires c = filled-length 2048 0

pub returns : goal.returns
returns c = reads c.read_text.ensures

-- `names::resolve` meets its contract: an empty table is made and lent, with room for each definition.
-- Assumes nothing.
use mathlib.Core.Path.{refl, sym}
use native.Mathlib.Omega.{arith}
use lib.ListN.{length}
use Rattle.ground.proofs.Filled.{front_length}
use Rattle.names.proofs.resolve.Goals as goal

pub slice_bounds-resolve_by-end-2 : goal.slice_bounds-resolve_by-end-2
slice_bounds-resolve_by-end-2 c =
    sym (front_length 8192 0 (length c.args.defs.now) c.requires.few)

pub resolve_by-requires : goal.resolve_by-requires
resolve_by-requires c = (
  c.requires,
  record {
    few = omega (arith, c.requires.few);
    none = refl;
    room = front_length 8192 0 (length c.args.defs.now) c.requires.few;
  },
)

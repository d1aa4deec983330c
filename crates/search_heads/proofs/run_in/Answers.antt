-- `search_heads::run_in` meets its contract: the front of so many zeros is room for n lines.
-- Assumes nothing.
use mathlib.Core.Path.{sym}
use Prim.Native.Nat.{◌*◌}
use native.Mathlib.Omega.{arith}
use Rattle.ground.proofs.Filled.{front_length}
use Rattle.search_heads.proofs.Answer.{room_ready}
use Rattle.search_heads.proofs.run_in.Goals as goal

pub slice_bounds-mark_and_run-end : goal.slice_bounds-mark_and_run-end
slice_bounds-mark_and_run-end g c = sym (front_length g.row.LINES 0 c.args.n c.requires.0)

pub slice_bounds-mark_and_run-end-2 : goal.slice_bounds-mark_and_run-end-2
slice_bounds-mark_and_run-end-2 g c = sym (front_length g.row.LINES 0 c.args.n c.requires.0)

pub slice_bounds-mark_and_run-end-3 : goal.slice_bounds-mark_and_run-end-3
slice_bounds-mark_and_run-end-3 g c = sym (front_length g.row.BYTES 0 (8 * c.args.n) (omega arith))

pub mark_and_run-requires : goal.mark_and_run-requires
mark_and_run-requires g c =
    room_ready g.row.LINES c.requires.0 (front_length g.row.BYTES 0 (8 * c.args.n) (omega arith)) c.requires.3

pub returns : goal.returns
returns g c = c.mark_and_run.ensures

-- `bench::read_defs_in` meets its contract: the names that are defined and their numbers.
-- Assumes nothing.
use Rattle.texts.proofs.Steps.{defs_room, defined}
use lib.Seq.{length-take-le}
use mathlib.Core.Path.{sym}
use native.Mathlib.Omega.{arith}
use Rattle.bench.proofs.read_defs_in.Goals as goal

pub put_defs-d-requires : goal.put_defs-d-requires
put_defs-d-requires c =
    defs_room c.requires.read_defs_ready.0 c.requires.read_defs_ready.1 c.requires.defs_len.0 c.requires.defs_len.1

pub slice_bounds-read_placed-end-2 : goal.slice_bounds-read_placed-end-2
slice_bounds-read_placed-end-2 c =
    sym (length-take-le _ _ (omega (arith, c.put_defs-d.ensures.few, c.requires.defs_len.0)))

pub slice_bounds-read_placed-end-4 : goal.slice_bounds-read_placed-end-4
slice_bounds-read_placed-end-4 c =
    sym (length-take-le _ _ (omega (arith, c.put_defs-d.ensures.few, c.requires.defs_len.1)))

pub read_placed-requires : goal.read_placed-requires
read_placed-requires c =
    record { read_uses_ready = record { defined = defined c.requires.read_defs_ready.0 c.requires.read_defs_ready.1 c.put_defs-d.ensures; gates_are = c.requires.read_defs_ready.1; for_order = c.requires.defs_len.2 }; places_len = c.requires.defs_len.3 }

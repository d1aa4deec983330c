-- `bench_names::bench_names` meets its contract: room for the places and for the records is lent.
-- Assumes nothing.
use mathlib.Core.Path.{sym}
use Rattle.ground.proofs.Filled.{filled-length}
use Rattle.bench_names.proofs.bench_names.Goals as goal

pub slice_bounds-bench_names_in-end : goal.slice_bounds-bench_names_in-end
slice_bounds-bench_names_in-end c = sym (filled-length 2048 0)

pub slice_bounds-bench_names_in-end-2 : goal.slice_bounds-bench_names_in-end-2
slice_bounds-bench_names_in-end-2 c = sym (filled-length 16384 0)

pub bench_names_in-requires : goal.bench_names_in-requires
bench_names_in-requires c = (filled-length 2048 0, filled-length 16384 0)

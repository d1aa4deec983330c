-- `bench::read_lines` meets its contract: room for a form of each line is lent.
-- Assumes nothing.
use Rattle.ground.proofs.Filled.{front_length}
use mathlib.Core.Path.{sym}
use Rattle.bench.proofs.read_lines.Goals as goal

pub slice_bounds-read_lines_in-end : goal.slice_bounds-read_lines_in-end
slice_bounds-read_lines_in-end c = sym (front_length 32769 0 _ c.requires.read_lines_ready.1)

pub read_lines_in-requires : goal.read_lines_in-requires
read_lines_in-requires c =
    record { read_lines_ready = (c.requires.read_lines_ready.0, front_length 32769 0 _ c.requires.read_lines_ready.1, c.requires.read_lines_ready.1); places_len = c.requires.places_len }

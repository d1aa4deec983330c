-- `bench::read_words` meets its contract: room for the words and the ends of lines is lent.
-- Assumes nothing.
use Rattle.ground.proofs.Filled.{filled-length}
use mathlib.Core.Path.{sym}
use Rattle.bench.proofs.read_words.Goals as goal

pub slice_bounds-read_words_in-end : goal.slice_bounds-read_words_in-end
slice_bounds-read_words_in-end c = sym (filled-length 16385 0)

pub slice_bounds-read_words_in-end-2 : goal.slice_bounds-read_words_in-end-2
slice_bounds-read_words_in-end-2 c = sym (filled-length 32769 0)

pub read_words_in-requires : goal.read_words_in-requires
read_words_in-requires c =
    (record { short = c.requires.0; for_words = filled-length 16385 0; for_ends = filled-length 32769 0 }, c.requires.1)

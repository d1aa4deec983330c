-- `bench::read_words_in` meets its contract: the words and the ends of lines.
-- Assumes nothing.
use Rattle.texts.proofs.Steps.{lined, few_ends}
use lib.Seq.{length-take-le}
use mathlib.Core.Path.{sym}
use native.Mathlib.Omega.{arith}
use Rattle.bench.proofs.read_words_in.Goals as goal

pub slice_bounds-read_lines-end-2 : goal.slice_bounds-read_lines-end-2
slice_bounds-read_lines-end-2 c =
    sym (length-take-le _ _ (omega (arith, c.cut-found.ensures.most_words, c.requires.0.for_words)))

pub slice_bounds-read_lines-end-4 : goal.slice_bounds-read_lines-end-4
slice_bounds-read_lines-end-4 c =
    sym (length-take-le _ _ (omega (arith, c.cut-found.ensures.most_lines, c.requires.0.for_ends)))

pub read_lines-requires : goal.read_lines-requires
read_lines-requires c =
    record { read_lines_ready = (lined c.requires.0.short c.cut-found.ensures, few_ends _ _ c.cut-found.ensures.most_lines); places_len = c.requires.1 }

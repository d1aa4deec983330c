-- `listing::make` meets its contract: the work memory is of its size.
-- Assumes nothing.
use lib.Seq.{length-take-le}
use mathlib.Core.Path.{sym}
use native.Mathlib.Omega.{arith}
use Rattle.listing.proofs.Made.{tabled}
use Rattle.listing.proofs.make.Goals as goal

pub slice_bounds-dictionary_lanes-end : goal.slice_bounds-dictionary_lanes-end
slice_bounds-dictionary_lanes-end c = sym (length-take-le _ _ (omega arith))

pub returns : goal.returns
returns c =
    tabled c.requires (length-take-le _ _ (omega arith)) c.dictionary_lanes.ensures

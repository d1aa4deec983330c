-- `lane_lines::good_words` meets its contract: the first half is lent.
-- Assumes nothing.
use lib.Seq.{length-take-le}
use lib.ListN.{drop}
use Prim.Native.Nat.{ℕ, ◌*◌}
use mathlib.Core.List.{List, ◌++◌}
use mathlib.Core.Path.{sym, ap}
use native.Mathlib.Omega.{arith}
use Rattle.lane_lines.specs.Lines.{good_words}
use Rattle.lane_lines.proofs.good_words.Goals as goal

pub slice_bounds-good_lines-end-2 : goal.slice_bounds-good_lines-end-2
slice_bounds-good_lines-end-2 c = sym (length-take-le _ _ (omega arith))

pub good_lines-requires : goal.good_lines-requires
good_lines-requires c =
    (c.requires.well, c.requires.group, length-take-le (2 * c.args.n) c.args.work.now (omega arith))

pub returns : goal.returns
returns c =
    ap (λ (x : List ℕ). x ++ drop (2 * c.args.n) c.args.work.now) {y = good_words c.args.circuit.now c.args.inputs c.args.patterns.now c.args.n}
    c.good_lines.ensures

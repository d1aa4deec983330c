-- `simulate::good_values` meets its contract: the first half is lent.
-- Assumes nothing.
use lib.Seq.{length-take-le}
use lib.ListN.{drop}
use Prim.Native.Nat.{ℕ}
use mathlib.Core.List.{List, ◌++◌}
use mathlib.Core.Path.{sym, ap, ◌∙◌}
use native.Mathlib.Omega.{arith}
use Rattle.simulate.specs.Work.{good_of}
use Rattle.simulate.proofs.good_values.Goals as goal

pub slice_bounds-simulate-end-2 : goal.slice_bounds-simulate-end-2
slice_bounds-simulate-end-2 c = sym (length-take-le _ _ (omega arith))

pub simulate-requires : goal.simulate-requires
simulate-requires c =
    rw (length-take-le c.args.n c.args.work.now (omega arith)) (c.requires.shaped, c.requires.small)

pub returns : goal.returns
returns c = ap (λ (x : List ℕ). x ++ drop c.args.n c.args.work.now)
    (c.simulate.ensures
    ∙ ap (good_of c.args.circuit.now c.args.pattern.now) (length-take-le c.args.n c.args.work.now (omega arith)))

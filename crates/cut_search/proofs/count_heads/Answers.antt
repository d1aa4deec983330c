-- `cut_search::count_heads` meets its contract: the marks of head lines are counted.
-- Assumes nothing.
use Prim.Native.Nat.{ℕ}
use mathlib.Core.Bool.{Bool}
use lib.Dec.{eqb}
use Rattle.std.proofs.Common.{rules}
use borrow.Author.Tests.{tests}
use Rattle.ground.proofs.Search.{count_along}
use Rattle.cut_search.proofs.count_heads.Goals as goal

pub returns : goal.returns
returns c =
    let head : ℕ → Bool = λ mark. eqb mark 1 in
    count_along head c.filter.ensures.source c.filter.ensures.closure c.count.ensures.ran (λ x r q k. search (rules, tests)) c.args.marks.now c.iter.ensures.rest

-- `list_search::search_below` meets its contract: nothing is searched, or the others and then the last.
-- Assumes nothing.
use mathlib.Core.Path.{refl}
use native.Mathlib.Omega.{arith}
use borrow.Author.Rules.{rules}
use Rattle.list_search.proofs.Parts.{still_ready}
use Rattle.list_search.proofs.Ends.{below_none, below_done}
use Rattle.list_search.proofs.search_below.Goals as goal

pub returns-then-stop-eq0 : goal.returns-then-stop-eq0
returns-then-stop-eq0 c = below_none c.requires.0 c.requires.1 c.requires.2 c.if-stop-eq0.true

pub search_one-requires : goal.search_one-requires
search_one-requires c =
    let ready = c.requires.0 in
    (still_ready ready (search rules) (search rules) (search rules) (search rules), omega (arith, c.requires.1.inside, ready.budgets_are))

pub returns : goal.returns
returns c =
    below_done c.requires.0 c.requires.1 c.requires.2 (omega arith) c.search_others.ensures c.search_one.ensures refl

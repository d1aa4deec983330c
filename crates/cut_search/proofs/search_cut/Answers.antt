-- `cut_search::search_cut` meets its contract: the search of the bytes that were cut, and what it leaves of the node with its trees set.
-- Assumes nothing.
use Rattle.cut_search.proofs.Running.{side-ready, trees_ready, cut-done}
use Rattle.cut_search.proofs.search_cut.Goals as goal

pub side-found-requires : goal.side-found-requires
side-found-requires c = side-ready c.requires

pub put_trees-requires : goal.put_trees-requires
put_trees-requires c =
    trees_ready c.requires c.side-found.auto.node

pub returns : goal.returns
returns c =
    cut-done c.requires c.side-found.ensures c.put_trees.ensures

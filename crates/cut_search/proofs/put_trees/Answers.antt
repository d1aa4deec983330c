-- `cut_search::put_trees` meets its contract: the trees are set for a test, else the buffer stays.
-- Assumes nothing.
use Rattle.cut_search.proofs.put_trees.Goals as goal

pub returns-in-Test : goal.returns-in-Test
returns-in-Test c =
    rw c.in-Test.is c.set_trees.ensures

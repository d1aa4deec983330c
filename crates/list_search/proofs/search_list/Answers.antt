-- `list_search::search_list` meets its contract: all is given up before the search.
-- Assumes nothing.
use borrow.Author.Rules.{rules}
use Rattle.list_search.proofs.Parts.{still_ready}
use Rattle.list_search.proofs.search_list.Goals as goal

pub search_below-requires : goal.search_below-requires
search_below-requires c =
    (still_ready c.requires (search rules) (search rules) (search rules) (search rules), c.after_last-stop.ensures, rw (← c.requires.outcomes_are) c.reach_all.ensures)

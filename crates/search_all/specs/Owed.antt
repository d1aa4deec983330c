-- What the functions of the search for a list owe each other; no reader of the promises needs it.
-- Assumes nothing.
use Rattle.std.specs.Prelude.{List, ℕ, length}
use Rattle.answers.specs.Rules.{Ruling}
use Rattle.answers.specs.Rules.{Rule}
use Rattle.answers.specs.Owed.{RulesDone}
use Rattle.list_search.specs.Works.{works_for}
use Rattle.search_all.specs.Promise.{outcomes_for, counts_for, tests_for, search_all_rest_rules}

-- the answer and every lent memory afterwards, where these are the rules
abbrev pub Memories : Type 0
Memories = List ℕ × List ℕ × List ℕ × List ℕ

abbrev pub SearchedAllBy : List Rule → List ℕ → List ℕ → List ℕ → Memories → Ruling → Memories → Type 0
SearchedAllBy rules c fs bs m r m' =
    RulesDone {M = Memories} rules tt m (outcomes_for c fs bs, counts_for c fs bs, tests_for c fs bs m.2, works_for c fs bs m.3) r m'

-- for an accepted circuit
abbrev pub SearchAllDone : List ℕ → List ℕ → List ℕ → ℕ → ℕ → Memories → Ruling → Memories → Type 0
SearchAllDone c fs bs inputs n m r m' =
    SearchedAllBy (search_all_rest_rules c fs inputs n (length bs) (length m.0) (length m.1) (length m.2) (length m.3)) c fs bs m r m'

-- What the C entries of clocked circuits promise: the answer in numbers, and what lent memory holds afterwards. What they return and write is what
-- the parts promise, but with an answer area of another size than 32 bytes nothing is written at all.
-- Assumes nothing.
use Rattle.std.specs.Prelude.{List, ℕ, length}
use Rattle.answers.specs.Area.{success}
use Rattle.states.specs.Rules.{lines_after}
use Rattle.unfolded.specs.Unfolded.{unfolded}
use Rattle.unfold.specs.Promise.{unfold_rules}
use Rattle.unfold_dictionary.specs.Promise.{steps_dictionary_rules, steps_table, steps_work}
use Rattle.replies.specs.Entered.{LentEntered, MadeEntered}

-- the unfolding: lines; the buffer u
abbrev pub UnfoldEntered : List ℕ → List ℕ → ℕ → List ℕ → List ℕ → ℕ → List ℕ → List ℕ → Type 0
UnfoldEntered c st k u a r u' a' = LentEntered (unfold_rules c st k (length u)) (success (lines_after c k) 0 0) u (unfolded c st k) a r u' a'

-- the dictionary over several steps: done; the table t and the work memory w
abbrev pub UnfoldDictionaryEntered : List ℕ → List ℕ → ℕ → List ℕ → List ℕ → List ℕ → List ℕ → List ℕ → ℕ → List ℕ → List ℕ → List ℕ → Type 0
UnfoldDictionaryEntered c st k fs ps t w a r t' w' a' =
    MadeEntered (steps_dictionary_rules c st k fs ps (length t) (length w)) (steps_table c st k fs ps) (steps_work c st k fs ps) t w a r t' w' a'

-- The search for a list is the same as calling the search for each fault in turn, in the words of the request.
-- Assumes nothing.
use Rattle.std.specs.Prelude.{◌≡◌, List, ℕ, suc, ◌*◌, ◌<◌, get_or, take, drop, Result}
use Rattle.answers.specs.Area.{success}
use Rattle.circuit.specs.Record.{inputs_of}
use Rattle.lists.specs.Faults.{fault_count}
use Rattle.lists.specs.Patterns.{pattern_at}
use Rattle.search.specs.Promise.{searched_numbers, Searches}
use Rattle.answers.specs.declared.Refusal.{Refusal}
use Rattle.nodes.specs.declared.Verdict.{Verdict}

-- the eight bytes of record i
abbrev pub record_at : List ℕ → ℕ → List ℕ
record_at fs i = take 8 (drop (8 * i) fs)

-- calls of the search one after the other, one a fault: each is given its record, its budget and its part of the tests, and the work memory as the
-- call before it left it; call i answers a i and leaves u i in its part, and v i is the work memory before it
pub record CallsInTurn (c fs bs t w : List ℕ) (a : ℕ → Result Verdict Refusal) (u v : ℕ → List ℕ) : Type 0 where
  pub first : v 0 ≡ w
  pub call : (i : ℕ) → i < fault_count fs → Searches c (record_at fs i) (get_or bs i 0) (pattern_at (inputs_of c) t i) (v i) (a i) (u i) (v (suc i))

-- what the one call leaves is what they leave: the paper's numbers of each answer, each test buffer, and the work memory after the last
pub record SameAsAll (c fs : List ℕ) (a : ℕ → Result Verdict Refusal) (u v : ℕ → List ℕ) (o' k' t' w' : List ℕ) : Type 0 where
  pub numbers : (i : ℕ) → i < fault_count fs → searched_numbers (a i) ≡ success (get_or o' i 0) (get_or k' i 0) 0
  pub tests : (i : ℕ) → i < fault_count fs → u i ≡ pattern_at (inputs_of c) t' i
  pub work : v (fault_count fs) ≡ w'

-- Part 5, the clause writer: its refusals, what it answers, and what the lent words hold afterwards.
-- Assumes nothing.
use Rattle.std.specs.Prelude.{◌≡◌, List, [], ◌∷◌, ◌++◌, ℕ, ◌≤◌, leb, ℤ, length, Result}
use Rattle.ground.specs.Put.{laid_on}
use Rattle.answers.specs.Rules.{Rule, refusal, unless}
use Rattle.answers.specs.Rules.Rule.{whole}
use Rattle.answers.specs.Area.{Numbers, success, in_numbers, told}
use Rattle.answers.specs.Answer.{answered}
use Rattle.circuit.specs.Record.{lines_of}
use Rattle.circuit.specs.Promise.{circuit_rules}
use Rattle.lists.specs.declared.Fault.{Fault}
use Rattle.lists.specs.Faults.{fault_at, fault_rules}
use Rattle.cnf.specs.Cnf.{Clauses, words_of}
use Rattle.clauses.specs.declared.Written.{Written}
use Rattle.line_clauses.specs.Clauses.{clauses_of, variables_of}
use Rattle.answers.specs.declared.Refusal.{Refusal}
use Rattle.answers.specs.declared.Reason.TheVariants.{NoRoom}

-- the clauses fit the lent words, else the words needed are the place
unfoldable pub room_rules : ℕ → ℕ → List Rule
room_rules need room = whole NoRoom (leb need room) (need ≤ room) need ∷ []

-- the list of a circuit and a fault, and its words
abbrev pub clauses_for : List ℕ → Fault → Clauses
clauses_for c fault = clauses_of c fault (lines_of c)

abbrev pub words_for : List ℕ → Fault → List ℤ
words_for c fault = words_of (clauses_for c fault)

-- the refusals of the circuit check, then 6 (not exactly one record, eight bytes) and 7, then 11
abbrev pub clause_rules : List ℕ → List ℕ → ℕ → List Rule
clause_rules c fs room = circuit_rules c ++ (fault_rules 1 c fs ++ room_rules (length (words_for c (fault_at fs 0))) room)

-- so many words, clauses and variables
abbrev pub written_are : ℕ → ℕ → ℕ → Written
written_are w l v = record { words = w; clauses = l; variables = v }

-- they are the answer where all is fine
unfoldable pub written_of : List ℕ → List ℕ → ℕ → Result Written Refusal
written_of c fs room =
    answered (refusal (clause_rules c fs room))
    (written_are (length (words_for c (fault_at fs 0))) (length (clauses_for c (fault_at fs 0))) (variables_of c (lines_of c)))

-- the paper's number and values for each case of the answer
abbrev pub list_numbers : Written → Numbers
list_numbers a = success a.words a.clauses a.variables

unfoldable pub written_numbers : Result Written Refusal → Numbers
written_numbers = in_numbers list_numbers

-- the promise, whatever the bytes and the words: the answer's case, its number and values, and every word; a refusal writes nothing
pub record Writes (c fs : List ℕ) (w w' : List ℤ) (r : Result Written Refusal) : Type 0 where
  pub answer : r ≡ written_of c fs (length w)
  pub numbers :
      written_numbers r
      ≡ told (refusal (clause_rules c fs (length w))) (success (length (words_for c (fault_at fs 0))) (length (clauses_for c (fault_at fs 0))) (variables_of c (lines_of c)))
  pub words : w' ≡ unless (refusal (clause_rules c fs (length w))) w (laid_on w (words_for c (fault_at fs 0)))

-- What the functions of the clause writer owe each other; no reader of the promises needs it.
-- Assumes nothing.
use Rattle.std.specs.Prelude.{◌≡◌, List, ◌++◌, ℕ, ◌+◌, ◌≤◌, ℤ, length, Result}
use Rattle.answers.specs.Rules.{Rule}
use Rattle.answers.specs.Owed.{RulesDone}
use Rattle.circuit.specs.Record.{outputs_before}
use Rattle.lists.specs.declared.Fault.{Fault}
use Rattle.lists.specs.Faults.{fault_at, fault_rules}
use Rattle.ground.specs.Put.{laid_on}
use Rattle.ground.specs.Lists.{gather}
use Rattle.cnf.specs.Cnf.{Clauses, words_of}
use Rattle.line_clauses.specs.Clauses.{clauses_of, variables_of}
use Rattle.line_clauses.specs.Owed.{CircuitReady}
use Rattle.clauses.specs.declared.Written.{Written}
use Rattle.clauses.specs.Promise.{room_rules, written_are}
use Rattle.answers.specs.declared.Refusal.{Refusal}

-- an accepted circuit of n lines with so many outputs
pub record WholeReady (c : List ℕ) (n outputs : ℕ) : Type 0 where
  pub circuit : CircuitReady c n
  pub outputs_are : outputs ≡ outputs_before c n
  pub few_outputs : outputs ≤ 2048

-- room from `at` on for what all the lines bring
pub record ClauseLinesReady (c : List ℕ) (n : ℕ) (piece : ℕ → Clauses) (w : List ℤ) (at : ℕ) : Type 0 where
  pub circuit : CircuitReady c n
  pub room : at + length (words_of (gather piece n)) ≤ length w

pub record PutAllReady (c : List ℕ) (f : Fault) (n outputs : ℕ) (w : List ℤ) : Type 0 where
  pub counted : WholeReady c n outputs
  pub room : length (words_of (clauses_of c f n)) ≤ length w

-- ---- the answer and the words afterwards, where these are the rules, the clauses and the number of variables

abbrev pub ClausesDone : List Rule → Clauses → ℕ → List ℤ → List ℤ → Result Written Refusal → Type 0
ClausesDone rules cs variables w w' r = RulesDone rules (written_are (length (words_of cs)) (length cs) variables) w (laid_on w (words_of cs)) r w'

-- the rules left once the fault is read
abbrev pub fit_rules : List ℕ → Fault → ℕ → ℕ → List Rule
fit_rules c f n room = room_rules (length (words_of (clauses_of c f n))) room

abbrev pub FitDone : List ℕ → Fault → ℕ → List ℤ → List ℤ → Result Written Refusal → Type 0
FitDone c f n w w' r = ClausesDone (fit_rules c f n (length w)) (clauses_of c f n) (variables_of c n) w w' r

-- and those left once the circuit is accepted: the fault's come first
abbrev pub RestDone : List ℕ → List ℕ → ℕ → List ℤ → List ℤ → Result Written Refusal → Type 0
RestDone c fs n w w' r =
    let f = fault_at fs 0 in
    ClausesDone (fault_rules 1 c fs ++ fit_rules c f n (length w)) (clauses_of c f n) (variables_of c n) w w' r

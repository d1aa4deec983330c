-- Demand 3: what words have to say of a circuit and a fault, so that solving them is searching for a test.
-- Assumes nothing.
use Rattle.std.specs.Prelude.{◌≡◌, ◌↔◌, true, List, ℕ, ◌≤◌, ◌<◌, ℤ, length}
use Rattle.circuit.specs.Record.{lines_of, is_input, inputs_before}
use Rattle.lists.specs.declared.Fault.{Fault}
use Rattle.simulate.specs.Boolean.{Vector, Detects}
use Rattle.cnf.specs.Cnf.{Assignment, decode, Satisfies, variables_to}
use Rattle.line_clauses.specs.Clauses.{good_var}

-- the assignment gives the inputs of a circuit of n lines their values in the vector, and makes each clause of the words true
pub record Extension (c : List ℕ) (n : ℕ) (x : Vector) (words : List ℤ) (σ : Assignment) : Type 0 where
  pub extends : (k : ℕ) → k < n → is_input c k ≡ true → σ (good_var k) ≡ x (inputs_before c k)
  pub satisfies : Satisfies σ words

-- two assignments are the same on the variables 1 to v
abbrev pub SameTo : ℕ → Assignment → Assignment → Type 0
SameTo v σ τ = (m : ℕ) → 1 ≤ m → m ≤ v → σ m ≡ τ m

-- no assignment satisfies the words
abbrev pub Unsatisfiable : List ℤ → Type 0
Unsatisfiable words = (σ : Assignment) → Satisfies σ words → ⊥

-- no complete vector detects the fault
abbrev pub Undetectable : List ℕ → Fault → Type 0
Undetectable c f = (x : Vector) → Detects c f (lines_of c) x → ⊥

-- the words, in so many clauses over so many variables, are faithful to a circuit and a fault
pub record FaithfulWords (c : List ℕ) (f : Fault) (words : List ℤ) (clauses variables : ℕ) : Type 0 where
  -- a vector that detects the fault extends to an assignment that satisfies every clause,
  pub extended : (x : Vector) → Detects c f (lines_of c) x → (σ : Assignment) × Extension c (lines_of c) x words σ
  -- no other vector does,
  pub detected : (x : Vector) (σ : Assignment) → Extension c (lines_of c) x words σ → Detects c f (lines_of c) x
  -- and it does in exactly one way
  pub one_way : (x : Vector) (σ τ : Assignment) → Extension c (lines_of c) x words σ → Extension c (lines_of c) x words τ → SameTo variables σ τ
  -- so the words cannot be satisfied exactly if no vector detects the fault
  pub redundant : Unsatisfiable words ↔ Undetectable c f
  -- and they are that many clauses, over those variables
  pub counted : length (decode words) ≡ clauses
  pub named : variables_to variables (decode words) ≡ true

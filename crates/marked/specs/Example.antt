-- What a marked example claims: for each kind of claim the inputs, the expected answer, and what the definitions of the promises must give.
-- Assumes nothing.
use Rattle.std.specs.Prelude.{◌≡◌, ◌↔◌, List, [], ◌∷◌, ℕ, suc, ◌*◌, replicate, Ok, Result}
use Rattle.ground.specs.Choose.{choose}
use Rattle.answers.specs.Rules.{Ruling}
use Rattle.answers.specs.Answer.{answered}
use Rattle.answers.specs.Rules.{refusal, unless}
use Rattle.circuit.specs.declared.Counts.{Counts}
use Rattle.circuit.specs.Record.{lines_of, inputs_of}
use Rattle.circuit.specs.Promise.{check_of}
use Rattle.lists.specs.Faults.{fault_at}
use Rattle.tables.specs.Entries.{entries_of}
use Rattle.tables.specs.Marks.{kept_rules}
use Rattle.needs.specs.Needs as needs
use Rattle.listing.specs.Promise.{output_of}
use Rattle.nodes.specs.declared.Verdict.{Verdict}
use Rattle.search.specs.Promise.{search_rules, verdict_for, test_for}
use Rattle.ground.specs.Lists.{gather}
use Rattle.cnf.specs.Cnf.{Assignment, Clauses, Satisfies}
use Rattle.clauses.specs.declared.Written.{Written}
use Rattle.line_clauses.specs.Clauses.{variables_of}
use Rattle.clauses.specs.Promise.{clauses_for, words_for, written_of}
use Rattle.answers.specs.declared.Refusal.{Refusal}

pub data Example : Type 0 where
  -- the check answers this of a circuit
  check : List ℕ → Result Counts Refusal → Example
  -- circuit, faults and patterns, and the whole text that the dictionary program prints
  prints : List ℕ → List ℕ → List ℕ → List ℕ → Example
  -- circuit, fault and budget; the verdict, and the test buffer afterwards
  search : List ℕ → List ℕ → ℕ → Verdict → List ℕ → Example
  -- numbers of faults and patterns, table; the marks, and the pairs of faults that are told apart
  compact : ℕ → ℕ → List ℕ → List ℕ → List (List ℕ) → Example
  -- circuit and fault; the clauses
  clauses : List ℕ → List ℕ → Clauses → Example
  -- circuit, fault and the number of lent words; the writer's answer
  write : List ℕ → List ℕ → ℕ → Result Written Refusal → Example
  -- circuit and fault; an assignment satisfies the words exactly if these are its true variables
  solve : List ℕ → List ℕ → List ℕ → Example

-- lent memory, as it was before: no entry, mark or value is 255, so that what a part leaves alone is seen
abbrev pub lent : ℕ → List ℕ
lent n = replicate n 255

-- ---- the marks that the compactor leaves

abbrev pub marks_of : ℕ → ℕ → List ℕ → List ℕ
marks_of F P t = unless (refusal (kept_rules F P t (lent P))) (lent P) (needs.compacted (entries_of F t) F P)

-- ---- the pairs told apart by some pattern of the whole table

abbrev pub pairs_of : ℕ → ℕ → List ℕ → List (List ℕ)
pairs_of F P t =
    gather (λ g. gather (λ f. choose (needs.apart (entries_of F t) P needs.whole f g) ((f ∷ g ∷ []) ∷ []) []) g) F

-- ---- the search with buffers of the exact sizes

abbrev pub search_ruling : List ℕ → List ℕ → Ruling
search_ruling c f = refusal (search_rules c f (inputs_of c) (2 * lines_of c))

-- ---- the variables that an assignment makes true, of 1 to v

abbrev pub true_to : ℕ → Assignment → List ℕ
true_to v σ = gather (λ k. choose (σ (suc k)) (suc k ∷ []) []) v

-- ---- what the definitions must give

abbrev pub Yields : Example → Type 0
Yields (Example.check c r) = check_of c ≡ r
Yields (Example.prints c fs ps text) = output_of c fs ps ≡ text
Yields (Example.search c f b v t) =
    (answered (search_ruling c f) (verdict_for c (fault_at f 0) b) ≡ Ok v)
    × (unless (search_ruling c f) (lent (inputs_of c)) (test_for c (fault_at f 0) b (lent (inputs_of c))) ≡ t)
Yields (Example.compact F P t m pairs) = (marks_of F P t ≡ m) × (pairs_of F P t ≡ pairs)
Yields (Example.clauses c f cs) = clauses_for c (fault_at f 0) ≡ cs
Yields (Example.write c f room r) = written_of c f room ≡ r
Yields (Example.solve c f vs) = (σ : Assignment) → Satisfies σ (words_for c (fault_at f 0)) ↔ (true_to (variables_of c (lines_of c)) σ ≡ vs)

-- every example of a list
abbrev pub AllYield : List Example → Type 0
AllYield [] = Unit
AllYield (x ∷ l) = Yields x × AllYield l

-- The marked examples, in the paper's order and words: example A, then the further ones.
-- Assumes nothing.
use Rattle.std.specs.Prelude.{List, [], ◌∷◌, ◌++◌, ℕ, ℤ, pos, neg_ℤ, replicate, Ok, Err}
use Rattle.tables.specs.Entries.{pass, fail, unknown}
use Rattle.nodes.specs.declared.Verdict.TheVariants.{Test, Redundant, GivenUp}
use Rattle.marked.specs.Example.{Example, lent}
use Rattle.circuit.specs.Promise.{counts_are}
use Rattle.clauses.specs.Promise.{written_are}
use Rattle.answers.specs.declared.Reason.TheVariants.{CircuitLayout, ManyInputs, NoRoom}

-- ---- records: the laid_out of lines and faults, laid one after the other

abbrev pub laid_out : List (List ℕ) → List ℕ
laid_out [] = []
laid_out (r ∷ l) = r ++ laid_out l

abbrev input : List ℕ
input = 0 ∷ 0 ∷ 0 ∷ 0 ∷ 0 ∷ 0 ∷ 0 ∷ 0 ∷ []

-- line, stuck value: on the line itself
abbrev pub stuck : ℕ → ℕ → List ℕ
stuck line value = line ∷ 0 ∷ 0 ∷ value ∷ 0 ∷ 0 ∷ 0 ∷ 0 ∷ []

-- lines 0, 1, 2 inputs; 3 = AND(0,1); 4 = OR(3,2), output
abbrev pub circuit_a : List ℕ
circuit_a =
    laid_out (
    input
    ∷ input
    ∷ input
    ∷ (3 ∷ 0 ∷ 0 ∷ 0 ∷ 1 ∷ 0 ∷ 0 ∷ 0 ∷ [])
    ∷ (5 ∷ 1 ∷ 3 ∷ 0 ∷ 2 ∷ 0 ∷ 0 ∷ 0 ∷ [])
    ∷ []
    )

abbrev pub faults_a : List ℕ
faults_a = laid_out (stuck 3 0 ∷ stuck 3 1 ∷ stuck 2 1 ∷ stuck 0 0 ∷ [])

-- 110, 010, 0X0, X10
abbrev pub patterns_a : List ℕ
patterns_a = 1 ∷ 1 ∷ 0 ∷ 0 ∷ 1 ∷ 0 ∷ 0 ∷ 2 ∷ 0 ∷ 2 ∷ 1 ∷ 0 ∷ []

-- line 0 input, 1 = NOT 0, 2 = AND(0,1) output
abbrev pub not_and : List ℕ
not_and = laid_out (input ∷ (2 ∷ 0 ∷ 0 ∷ 0 ∷ 0 ∷ 0 ∷ 0 ∷ 0 ∷ []) ∷ (3 ∷ 1 ∷ 0 ∷ 0 ∷ 1 ∷ 0 ∷ 0 ∷ 0 ∷ []) ∷ [])

-- line 0 input, 1 = NOT 0 output
abbrev pub inverter : List ℕ
inverter = laid_out (input ∷ (2 ∷ 1 ∷ 0 ∷ 0 ∷ 0 ∷ 0 ∷ 0 ∷ 0 ∷ []) ∷ [])

-- so many inputs, and a buffer of line 0 as output
abbrev pub inputs : ℕ → List ℕ
inputs n = laid_out (replicate n input) ++ (1 ∷ 1 ∷ 0 ∷ 0 ∷ 0 ∷ 0 ∷ 0 ∷ 0 ∷ [])

-- the largest budget
abbrev pub unlimited : ℕ
unlimited = 18446744073709551615

-- ---- letters of the text, as laid_out

abbrev F : ℕ
F = 70

abbrev P : ℕ
P = 80

abbrev K : ℕ
K = 75

abbrev D : ℕ
D = 68

abbrev space : ℕ
space = 32

-- a line of text: number below 10, mark, letters, end
abbrev line : ℕ → ℕ → List ℕ → List ℕ
line digit mark letters = digit ∷ space ∷ mark ∷ space ∷ (letters ++ (10 ∷ []))

-- ---- literals

abbrev is : ℕ → ℤ
is n = pos n

abbrev no : ℕ → ℤ
no n = neg_ℤ (pos n)

-- ---- the table

abbrev pub marked : List Example
marked =
    -- Example A: 0 K FPPF, 1 K PFFP, 2 D PFFP, 3 D PPPP
    Example.prints circuit_a faults_a patterns_a
    (laid_out (
    line 48 K (F ∷ P ∷ P ∷ F ∷ [])
    ∷ line 49 K (P ∷ F ∷ F ∷ P ∷ [])
    ∷ line 50 D (P ∷ F ∷ F ∷ P ∷ [])
    ∷ line 51 D (P ∷ P ∷ P ∷ P ∷ [])
    ∷ []
    ))
    -- A, search for line 3 stuck 1: test 000, 4 nodes
    ∷ Example.search circuit_a (stuck 3 1) unlimited (Test 4) (0 ∷ 0 ∷ 0 ∷ [])
    -- budget 3 gives up with 3
    ∷ Example.search circuit_a (stuck 3 1) 3 (GivenUp 3) (lent 3)
    -- line 3 stuck 0: test 110, 14 nodes
    ∷ Example.search circuit_a (stuck 3 0) unlimited (Test 14) (1 ∷ 1 ∷ 0 ∷ [])
    -- line 2 stuck 0: redundant, 3 nodes
    ∷ Example.search not_and (stuck 2 0) unlimited (Redundant 3) (lent 1)
    -- budget 2 gives up with 2
    ∷ Example.search not_and (stuck 2 0) 2 (GivenUp 2) (lent 1)
    -- budget 0 with 0
    ∷ Example.search not_and (stuck 2 0) 0 (GivenUp 0) (lent 1)
    -- FUP and FFF: first and third told apart, neither pair with the second; both patterns kept
    ∷ Example.compact 3 2 (fail ∷ unknown ∷ pass ∷ fail ∷ fail ∷ fail ∷ []) (1 ∷ 1 ∷ []) ((0 ∷ 2 ∷ []) ∷ [])
    -- one fault, one pattern, U: dropped
    ∷ Example.compact 1 1 (unknown ∷ []) (0 ∷ []) []
    -- line 1 stuck 0: (-3 -1)(3 1)(-5)(-2 1)(2 -1)(-4 5)(4 -5)(-6 3 4)(-6 -3 -4)(6 -3 4)(6 3 -4)(6)
    ∷ Example.clauses inverter (stuck 1 0)
    (
    (no 3 ∷ no 1 ∷ [])
    ∷ (is 3 ∷ is 1 ∷ [])
    ∷ (no 5 ∷ [])
    ∷ (no 2 ∷ is 1 ∷ [])
    ∷ (is 2 ∷ no 1 ∷ [])
    ∷ (no 4 ∷ is 5 ∷ [])
    ∷ (is 4 ∷ no 5 ∷ [])
    ∷ (no 6 ∷ is 3 ∷ is 4 ∷ [])
    ∷ (no 6 ∷ no 3 ∷ no 4 ∷ [])
    ∷ (is 6 ∷ no 3 ∷ is 4 ∷ [])
    ∷ (is 6 ∷ is 3 ∷ no 4 ∷ [])
    ∷ (is 6 ∷ [])
    ∷ []
    )
    -- 12 clauses, 6 variables, 38 words
    ∷ Example.write inverter (stuck 1 0) 38 (Ok (written_are 38 12 6))
    -- one satisfying assignment: only 3 and 6 are true
    ∷ Example.solve inverter (stuck 1 0) (3 ∷ 6 ∷ [])
    -- with 37 words: refusal 11, place 38
    ∷ Example.write inverter (stuck 1 0) 37 (Err (NoRoom, 38))
    -- 64 inputs pass; 65 give refusal 4
    ∷ Example.check (inputs 64) (Ok (counts_are 65 64 1))
    ∷ Example.check (inputs 65) (Err (ManyInputs, 0))
    -- line 0 of kind 1: refusal 2, place 2
    ∷ Example.check (1 ∷ 1 ∷ 0 ∷ 0 ∷ 0 ∷ 0 ∷ 0 ∷ 0 ∷ []) (Err (CircuitLayout, 2))
    ∷ []

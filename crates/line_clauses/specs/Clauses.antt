-- The clauses of a circuit of n lines and a fault, in the paper's order.
-- Assumes nothing.
use Rattle.std.specs.Prelude.{List, [], ◌∷◌, ◌++◌, ℕ, ◌+◌, ◌*◌, eqb, ℤ, pos, neg_ℤ}
use Rattle.ground.specs.Choose.{choose}
use Rattle.circuit.specs.Record.{kind_at, pin_at, is_input, is_output, outputs_before}
use Rattle.lists.specs.declared.Fault.{Fault}
use Rattle.lists.specs.Faults.{is_at}
use Rattle.ground.specs.Lists.{gather}
use Rattle.cnf.specs.Cnf.{Clauses}
use Rattle.cnf.specs.Table.{gate_clauses, sites}

-- ---- the numbers of the variables

abbrev pub good_var : ℕ → ℕ
good_var k = 2 * k + 1

abbrev pub faulty_var : ℕ → ℕ
faulty_var k = 2 * k + 2

abbrev pub stuck_var : ℕ → ℕ
stuck_var n = 2 * n + 1

-- the difference at the j-th output
abbrev pub difference_var : ℕ → ℕ → ℕ
difference_var n j = 2 * n + 2 + j

abbrev pub variables_of : List ℕ → ℕ → ℕ
variables_of c n = 2 * n + 1 + outputs_before c n

-- ---- good gates: an input, which is no gate, writes nothing

-- what site s of line k shows: the line itself, or the line that its pin s reads
abbrev pub line_at : List ℕ → ℕ → ℕ → ℕ
line_at c k s = choose (eqb s 0) k (pin_at c k s)

unfoldable pub good_clauses : List ℕ → ℕ → Clauses
good_clauses c k = gate_clauses (kind_at c k) (λ s. good_var (line_at c k s))

-- ---- the stuck value

abbrev pub stuck_literal : Fault → ℕ → ℤ
stuck_literal f n = choose (eqb f.value 1) (pos (stuck_var n)) (neg_ℤ (pos (stuck_var n)))

-- ---- faulty lines

-- a gate with a stuck pin reads the stuck value at that pin
unfoldable pub faulty_site : List ℕ → Fault → ℕ → ℕ → ℕ → ℕ
faulty_site c f n k s = choose (is_at f k s) (stuck_var n) (faulty_var (line_at c k s))

-- y is a buffer, kind 1, of a; what stands at the pins that a kind lacks is in no clause
abbrev pub buffer_clauses : ℕ → ℕ → Clauses
buffer_clauses y a = gate_clauses 1 (sites y a a a)

-- a line stuck itself is a buffer of the stuck value, another input one of its good value
unfoldable pub faulty_clauses : List ℕ → Fault → ℕ → ℕ → Clauses
faulty_clauses c f n k =
    choose (is_at f k 0) (buffer_clauses (faulty_var k) (stuck_var n))
    (choose (is_input c k) (buffer_clauses (faulty_var k) (good_var k))
    (gate_clauses (kind_at c k) (faulty_site c f n k)))

-- ---- differences: the XOR of good and faulty at each output

-- y is the XOR, kind 7, of a and b
abbrev pub xor_clauses : ℕ → ℕ → ℕ → Clauses
xor_clauses y a b = gate_clauses 7 (sites y a b b)

unfoldable pub difference_clauses : List ℕ → ℕ → ℕ → Clauses
difference_clauses c n k = choose (is_output c k) (xor_clauses (difference_var n (outputs_before c k)) (good_var k) (faulty_var k)) []

-- one clause of all of them
abbrev pub differences : ℕ → ℕ → List ℤ
differences n outputs = gather (λ j. pos (difference_var n j) ∷ []) outputs

-- ---- the whole list

unfoldable pub clauses_of : List ℕ → Fault → ℕ → Clauses
clauses_of c f n =
    gather (good_clauses c) n
    ++ ((stuck_literal f n ∷ [])
    ∷ (gather (faulty_clauses c f n) n
    ++ (gather (difference_clauses c n) n
    ++ (differences n (outputs_before c n) ∷ []))))

-- What the functions that write words owe each other and their callers; no reader of the promises needs it.
-- Assumes nothing.
use Rattle.std.specs.Prelude.{◌≡◌, Bool, ◌||◌, List, [], ◌∷◌, ◌++◌, ℕ, suc, ◌+◌, ◌≤◌, ◌<◌, eqb, leb, ℤ, pos, neg_ℤ, length}
use Rattle.ground.specs.Choose.{choose}
use Rattle.cnf.specs.declared.Size.{Size}
use Rattle.cnf.specs.Cnf.{words_of}
use Rattle.cnf.specs.Table.{gate_clauses, sites}

-- the number of a variable, which a word holds
pub record Variable (v : ℕ) : Type 0 where
  pub fits : v < 2147483648

-- a variable's literal, negated or not
unfoldable pub signed : Bool → ℕ → ℤ
signed negated v = choose negated (neg_ℤ (pos v)) (pos v)

-- ---- clauses as words, each closed by a 0: of any literals, of one, of two, of three

abbrev pub closed : List ℤ → List ℤ
closed literals = literals ++ (pos 0 ∷ [])

abbrev pub single : ℤ → List ℤ
single p = p ∷ pos 0 ∷ []

abbrev pub pair : ℤ → ℤ → List ℤ
pair p q = p ∷ q ∷ pos 0 ∷ []

abbrev pub triple : ℤ → ℤ → ℤ → List ℤ
triple p q r = p ∷ q ∷ r ∷ pos 0 ∷ []

-- ---- gates, each literal with its opposite: y is a; y is a AND b; y is a XOR b

abbrev pub buffer_words : ℤ → ℤ → ℤ → ℤ → List ℤ
buffer_words y _y a _a = pair _y a ++ pair y _a

abbrev pub and_words : ℤ → ℤ → ℤ → ℤ → ℤ → ℤ → List ℤ
and_words y _y a _a b _b = pair _y a ++ (pair _y b ++ triple y _a _b)

abbrev pub xor_words : ℤ → ℤ → ℤ → ℤ → ℤ → ℤ → List ℤ
xor_words y _y a _a b _b = triple _y a b ++ (triple _y _a _b ++ (triple y _a b ++ triple y a _b))

-- by the kind of a gate: NOT goes with the buffer, NAND, OR and NOR go with AND, and XNOR with XOR; the selector takes as much room as XOR and XNOR
unfoldable pub by_shape : {A : Type 0} → ℕ → A → A → A → A
by_shape kind buffer and xor = choose (leb kind 2) buffer (choose (leb kind 6) and xor)

abbrev pub shape_words : ℕ → ℤ → ℤ → ℤ → ℤ → ℤ → ℤ → List ℤ
shape_words kind y _y a _a b _b = by_shape kind (buffer_words y _y a _a) (and_words y _y a _a b _b) (xor_words y _y a _a b _b)

unfoldable pub is_one_of : ℕ → ℕ → ℕ → ℕ → Bool
is_one_of kind a b c = eqb kind a || (eqb kind b || eqb kind c)

abbrev pub gate_words : ℕ → (ℕ → ℕ) → List ℤ
gate_words kind number = words_of (gate_clauses kind number)

-- the variables at the sites of a gate, and room for its clauses
pub record GateClausesReady (w : List ℤ) (at kind y a b s : ℕ) : Type 0 where
  pub own : Variable y
  pub first : Variable a
  pub second : Variable b
  pub third : Variable s
  pub room : at + length (gate_words kind (sites y a b s)) ≤ length w

-- ---- how many words clauses take

abbrev pub size_of : {A : Type 0} → List (List A) → ℕ
size_of [] = 0
size_of (clause ∷ clauses) = length clause + suc (size_of clauses)

pub record Takes {A : Type 0} (cs : List (List A)) (r : Size) : Type 0 where
  pub words : r.words ≡ size_of cs
  pub clauses : r.clauses ≡ length cs

-- What the functions of the syntax owe each other; no reader of the promises needs it. That the reader's tables are so is computed.
-- Assumes nothing.
use Rattle.std.specs.Prelude.{◌≡◌, Bool, true, false, ◌&&◌, List, [], ◌∷◌, ◌++◌, map, ℕ, zero, suc, ◌+◌, ◌*◌, ◌-◌, ◌/◌, ◌<◌, leb, ltb, length, get_or, drop}
use Rattle.ground.specs.Lists.{table}
use Rattle.syntax.specs.Regular.{Re, none, eps, seq, alt, star}
use Rattle.syntax.specs.Derivative.{next, after}
use Rattle.syntax.specs.Kinds.{bytes, input_word, output_word}
use Rattle.syntax.specs.Grammar.{symbol, symbols, sign, letters, up_to, blanks, name, mark, close, one_argument, two_arguments, gate, comment, line, bench}

-- ---- the table of the symbols: of each byte its symbol, as a letter from a on

unfoldable pub SymbolTable : List ℕ → Type 0
SymbolTable t = t ≡ table (λ b. 97 + symbol b) 256

-- ---- the states of the reader: what may follow in each

-- the rest of a statement, then what follows a statement
unfoldable pub then : Re → Re
then r = seq (seq r (alt eps comment)) (star (seq (sign 10) line))

-- the rest of a name of which n letters may still come, n - 1, .. and none, and what follows the name
unfoldable pub in_name : ℕ → Re → List Re
in_name zero r = seq blanks r ∷ []
in_name (suc n) r = seq (up_to (suc n)) (seq blanks r) ∷ in_name n r

-- in INPUT or OUTPUT, which may also be a name of which n letters may still come
unfoldable pub in_keyword : List ℕ → ℕ → List Re
in_keyword [] n = alt (seq blanks one_argument) (seq (up_to n) (seq blanks (mark 61 gate))) ∷ []
in_keyword (b ∷ w) n = alt (seq (letters (b ∷ w)) (seq blanks one_argument)) (seq (up_to n) (seq blanks (mark 61 gate))) ∷ in_keyword w (n - 1)

-- in the name of a kind, after these letters
unfoldable pub in_kind : List Re
in_kind =
    map (λ w. after gate (symbols (bytes w)))
    ("A" ∷ "AN" ∷ "B" ∷ "BU" ∷ "BUF" ∷ "N" ∷ "NO" ∷ "O" ∷ "X" ∷ "XN" ∷ [])

-- in the order of the table; first nothing, the start of a line, in a comment, after a statement
unfoldable pub states : List Re
states =
    none ∷ bench ∷ seq (next comment (symbol 35)) (star (seq (sign 10) line)) ∷
    map then
    ((blanks ∷ [])
    ++ in_name 15 (mark 61 gate)
    ++ in_keyword (drop 1 input_word) 15
    ++ (alt (seq blanks one_argument) (seq blanks (mark 61 gate)) ∷ [])
    ++ in_keyword (drop 1 output_word) 15
    ++ (seq blanks (name close) ∷ seq blanks gate ∷ seq blanks one_argument ∷ seq blanks two_arguments ∷ seq blanks (name (mark 44 (name close))) ∷ [])
    ++ in_kind
    ++ in_name 15 (mark 44 (name close))
    ++ in_name 15 close)

unfoldable pub state_of : ℕ → Re
state_of q = get_or states q none

-- ---- the table of the states

-- what a character says: whether it is a state, as a character from . on, and what may follow in that state
unfoldable pub cell_says : List Re → ℕ → Bool × Re
cell_says s x = (leb 46 x && ltb x 125, get_or s (x - 46) none)

-- what a row has to say: its state, a blank, and the state that follows at each symbol
unfoldable pub row : Re → List (Bool × Re)
row r = (true, r) ∷ (false, none) ∷ map (λ c. (true, next r c)) (table (λ c. c) 21)

unfoldable pub rows : List Re → List (Bool × Re)
rows [] = []
rows (r ∷ s) = row r ++ rows s

unfoldable pub StateTable : List ℕ → Type 0
StateTable t = map (cell_says states) t ≡ rows states

-- ---- the same as beginnings of rows

-- a row begins at q
pub record Row (q : ℕ) : Type 0 where
  pub begins : q ≡ 23 * (q / 23)
  pub inside : q / 23 < 79

-- x is the row of the state that follows state q at the symbol c
pub record Follows (q c x : ℕ) : Type 0 where
  pub row : Row x
  pub state : state_of (x / 23) ≡ next (state_of q) c

pub record RowTable (t : List ℕ) : Type 0 where
  pub long : length t ≡ 1817
  pub follows : (q c : ℕ) → q < 79 → c < 21 → Follows q c (get_or t (23 * q + 2 + c) 0)

-- The clauses of a gate, by its kind: the paper's table, and beside it the row of the selector; over the gate's own value y, its two sources a and b and its select s.
-- Assumes nothing.
use Rattle.std.specs.Prelude.{List, [], ◌∷◌, map, ℕ, eqb, ℤ, pos, neg_ℤ}
use Rattle.ground.specs.Choose.{choose}
use Rattle.gates.specs.Gate.{at_pins}
use Rattle.cnf.specs.Cnf.{Clauses}

-- the value at a site of the gate, or its negation: site 0 is the gate itself, site s its pin s
pub data Literal : Type 0 where
  plus : ℕ → Literal
  minus : ℕ → Literal

abbrev y : Literal
y = Literal.plus 0

abbrev _y : Literal
_y = Literal.minus 0

abbrev a : Literal
a = Literal.plus 1

abbrev _a : Literal
_a = Literal.minus 1

abbrev b : Literal
b = Literal.plus 2

abbrev _b : Literal
_b = Literal.minus 2

abbrev s : Literal
s = Literal.plus 3

abbrev _s : Literal
_s = Literal.minus 3

-- an input, kind 0, has none
unfoldable pub clause_table : ℕ → List (List Literal)
clause_table kind =
    choose (eqb kind 1) ((_y ∷ a ∷ []) ∷ (y ∷ _a ∷ []) ∷ [])
    (choose (eqb kind 2) ((_y ∷ _a ∷ []) ∷ (y ∷ a ∷ []) ∷ [])
    (choose (eqb kind 3) ((_y ∷ a ∷ []) ∷ (_y ∷ b ∷ []) ∷ (y ∷ _a ∷ _b ∷ []) ∷ [])
    (choose (eqb kind 4) ((y ∷ a ∷ []) ∷ (y ∷ b ∷ []) ∷ (_y ∷ _a ∷ _b ∷ []) ∷ [])
    (choose (eqb kind 5) ((y ∷ _a ∷ []) ∷ (y ∷ _b ∷ []) ∷ (_y ∷ a ∷ b ∷ []) ∷ [])
    (choose (eqb kind 6) ((_y ∷ _a ∷ []) ∷ (_y ∷ _b ∷ []) ∷ (y ∷ a ∷ b ∷ []) ∷ [])
    (choose (eqb kind 7) ((_y ∷ a ∷ b ∷ []) ∷ (_y ∷ _a ∷ _b ∷ []) ∷ (y ∷ _a ∷ b ∷ []) ∷ (y ∷ a ∷ _b ∷ []) ∷ [])
    (choose (eqb kind 8) ((y ∷ a ∷ b ∷ []) ∷ (y ∷ _a ∷ _b ∷ []) ∷ (_y ∷ _a ∷ b ∷ []) ∷ (_y ∷ a ∷ _b ∷ []) ∷ [])
    (choose (eqb kind 9) ((s ∷ _y ∷ a ∷ []) ∷ (s ∷ y ∷ _a ∷ []) ∷ (_s ∷ _y ∷ b ∷ []) ∷ (_s ∷ y ∷ _b ∷ []) ∷ [])
    []))))))))

-- as a word, where each site has the variable with the number `number site`
abbrev pub word_of : (ℕ → ℕ) → Literal → ℤ
word_of number (Literal.plus site) = pos (number site)
word_of number (Literal.minus site) = neg_ℤ (pos (number site))

unfoldable pub gate_clauses : ℕ → (ℕ → ℕ) → Clauses
gate_clauses kind number = map (map (word_of number)) (clause_table kind)

-- variable y at the gate itself, a, b and s at its pins
abbrev pub sites : ℕ → ℕ → ℕ → ℕ → ℕ → ℕ
sites y a b s site = choose (eqb site 0) y (at_pins a b s site)

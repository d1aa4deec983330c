-- The words of the notation that are no names, spelt here alone: INPUT and OUTPUT, and the kinds in one table. The grammar is made of them.
-- Assumes nothing.
use Rattle.std.specs.Prelude.{◌≡◌, ◌⊎◌, List, [], ◌∷◌, ◌++◌, map, ℕ, suc, eqb}
use Prim.Native.Char.{code}
use Prim.Native.String.{String, [] as ε, ◌∷◌ as ◌then◌}
use Rattle.ground.specs.Choose.{choose}
use Rattle.ground.specs.Lists.{table}
use Rattle.gates.specs.Gate.{last_kind, selector, pins_of}
use Rattle.words.specs.Words.{same}

-- a word as bytes
abbrev pub bytes : String → List ℕ
bytes ε = []
bytes (c then s) = code c ∷ bytes s

unfoldable pub input_word : List ℕ
input_word = bytes "INPUT"

unfoldable pub output_word : List ℕ
output_word = bytes "OUTPUT"

abbrev pub port_words : List (List ℕ)
port_words = input_word ∷ output_word ∷ []

-- ---- the kinds

-- its word, its number, and how many sources it has
pub record Kind : Type 0 where
  pub word : List ℕ
  pub number : ℕ
  pub pins : ℕ

abbrev row : String → ℕ → ℕ → Kind
row word number pins = record { word = bytes word; number = number; pins = pins }

-- kinds 1 to 8 of document 01, the buffer as BUFF; the selector has no word
unfoldable pub kinds : List Kind
kinds =
    row "BUFF" 1 1
    ∷ row "NOT" 2 1
    ∷ row "AND" 3 2
    ∷ row "NAND" 4 2
    ∷ row "OR" 5 2
    ∷ row "NOR" 6 2
    ∷ row "XOR" 7 2
    ∷ row "XNOR" 8 2
    ∷ []

-- the words of those with so many sources
abbrev pub words_with : ℕ → List Kind → List (List ℕ)
words_with n [] = []
words_with n (k ∷ ks) = choose (eqb k.pins n) (k.word ∷ words_with n ks) (words_with n ks)

unfoldable pub kind_words : ℕ → List (List ℕ)
kind_words n = words_with n kinds

-- the number of the kind that a word names, or 0
abbrev pub kind_in : List Kind → List ℕ → ℕ
kind_in [] w = 0
kind_in (k ∷ ks) w = choose (same w k.word) k.number (kind_in ks w)

unfoldable pub kind_of : List ℕ → ℕ
kind_of w = kind_in kinds w

-- the kinds of gates are those of the table, each once, and the selector; in the table each has as many sources as the gates' rule has pins for it, and no word
-- stands twice; and no word at all names the selector
pub record EachKind : Type 0 where
  pub numbers : map (λ k. k.number) kinds ++ (selector ∷ []) ≡ table suc last_kind
  pub sources : map (λ k. k.pins) kinds ≡ map (λ k. pins_of k.number) kinds
  pub words : map (λ k. kind_of k.word) kinds ≡ map (λ k. k.number) kinds
  pub unnamed : (w : List ℕ) → kind_of w ≡ selector → ⊥

-- w is one of these words
abbrev pub Among : List (List ℕ) → List ℕ → Type 0
Among [] w = ⊥
Among (v ∷ vs) w = (w ≡ v) ⊎ Among vs w

-- The words of a text, line by line: letters, digits and _ in a row, outside comments. A word is given by its first byte.
-- Assumes nothing.
use Rattle.std.specs.Prelude.{Bool, true, false, ◌&&◌, ◌||◌, List, [], ◌∷◌, ◌++◌, ℕ, zero, suc, eqb, leb, length, get_or, drop}
use Rattle.ground.specs.Choose.{choose}
use Rattle.ground.specs.Below.{count_below}
use Rattle.ground.specs.Lists.{collect}

-- ---- one word

unfoldable pub within : ℕ → ℕ → ℕ → Bool
within a b x = leb a x && leb x b

-- a letter, a digit or _
unfoldable pub word_byte : ℕ → Bool
word_byte b = within 48 57 b || (within 65 90 b || (within 97 122 b || eqb b 95))

-- the word at the beginning of a text: its letters, digits and _ up to the first other byte
unfoldable pub word : List ℕ → List ℕ
word [] = []
word (b ∷ t) = choose (word_byte b) (b ∷ word t) []

abbrev pub word_at : List ℕ → ℕ → List ℕ
word_at t i = word (drop i t)

unfoldable pub same : List ℕ → List ℕ → Bool
same [] [] = true
same [] (y ∷ m) = false
same (x ∷ l) [] = false
same (x ∷ l) (y ∷ m) = eqb x y && same l m

-- ---- all of them

-- where the byte b leads from m: 0 between words, 1 in a word, 2 in a comment
unfoldable pub mode : ℕ → ℕ → ℕ
mode m b = choose (eqb b 10) 0 (choose (eqb m 2 || eqb b 35) 2 (choose (word_byte b) 1 0))

-- after the first i bytes
unfoldable pub mode_to : List ℕ → ℕ → ℕ
mode_to t zero = 0
mode_to t (suc i) = mode (mode_to t i) (get_or t i 0)

-- a word begins at byte i
abbrev pub begins : List ℕ → ℕ → Bool
begins t i = eqb (mode_to t i) 0 && word_byte (get_or t i 0)

-- a line ends at byte i
abbrev pub feeds : List ℕ → ℕ → Bool
feeds t i = eqb (get_or t i 0) 10

-- how many words begin in the first i bytes
abbrev pub words_to : List ℕ → ℕ → ℕ
words_to t i = count_below i (begins t)

-- the first bytes of the words
unfoldable pub words_in : List ℕ → List ℕ
words_in t = collect (begins t) (λ i. i) (length t)

-- how many words stand before the end of each line; the last line ends with the text
unfoldable pub ends_in : List ℕ → List ℕ
ends_in t = collect (feeds t) (words_to t) (length t) ++ (words_to t (length t) ∷ [])

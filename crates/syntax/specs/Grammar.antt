-- The bench notation as a regular grammar. Bytes that the notation treats alike are one symbol.
-- Assumes nothing.
use Rattle.std.specs.Prelude.{List, [], ◌∷◌, map, ℕ, zero, suc, eqb}
use Rattle.ground.specs.Choose.{choose}
use Rattle.words.specs.Words.{word_byte}
use Rattle.syntax.specs.Regular.{Re, none, eps, one, seq, alt, star, has}
use Rattle.syntax.specs.Kinds.{port_words, kind_words}

-- ---- symbols

-- the signs: line feed # ( ) , = and the capitals of the keywords: A B D F I N O P R T U X; in order the symbols 1 to 18
unfoldable pub signs : List ℕ
signs = 10 ∷ 35 ∷ 40 ∷ 41 ∷ 44 ∷ 61 ∷ 65 ∷ 66 ∷ 68 ∷ 70 ∷ 73 ∷ 78 ∷ 79 ∷ 80 ∷ 82 ∷ 84 ∷ 85 ∷ 88 ∷ []

-- where x stands in a list, counted from n, or else m
unfoldable pub place_in : List ℕ → ℕ → ℕ → ℕ → ℕ
place_in [] x n m = m
place_in (y ∷ l) x n m = choose (eqb x y) n (place_in l x (suc n) m)

-- 0 a blank (space, tab, CR), 1 to 18 the signs, 19 any other letter, digit or _, 20 any other byte
unfoldable pub symbol : ℕ → ℕ
symbol b = choose (has (32 ∷ 9 ∷ 13 ∷ []) b) 0 (place_in signs b 1 (choose (word_byte b) 19 20))

abbrev pub symbols : List ℕ → List ℕ
symbols t = map symbol t

-- ---- the grammar

abbrev pub sign : ℕ → Re
sign b = one (symbol b ∷ [])

-- a keyword, letter by letter
unfoldable pub letters : List ℕ → Re
letters [] = eps
letters (b ∷ []) = sign b
letters (b ∷ c ∷ l) = seq (sign b) (letters (c ∷ l))

-- one of several keywords
unfoldable pub keys : List (List ℕ) → Re
keys [] = none
keys (w ∷ []) = letters w
keys (w ∷ v ∷ ws) = alt (letters w) (keys (v ∷ ws))

unfoldable pub word_symbol : Re
word_symbol = one (7 ∷ 8 ∷ 9 ∷ 10 ∷ 11 ∷ 12 ∷ 13 ∷ 14 ∷ 15 ∷ 16 ∷ 17 ∷ 18 ∷ 19 ∷ [])

unfoldable pub up_to : ℕ → Re
up_to zero = eps
up_to (suc n) = alt eps (seq word_symbol (up_to n))

unfoldable pub blanks : Re
blanks = star (one (0 ∷ []))

-- a name, of 1 to 16 letters, digits or _, then blanks, then what follows
unfoldable pub name : Re → Re
name r = seq (seq word_symbol (up_to 15)) (seq blanks r)

-- a sign, then blanks, then what follows
unfoldable pub mark : ℕ → Re → Re
mark b r = seq (sign b) (seq blanks r)

unfoldable pub close : Re
close = seq (sign 41) blanks

unfoldable pub one_argument : Re
one_argument = mark 40 (name close)

unfoldable pub two_arguments : Re
two_arguments = mark 40 (name (mark 44 (name close)))

-- a kind with as many arguments as it has sources
unfoldable pub gate : Re
gate = alt (seq (keys (kind_words 1)) (seq blanks one_argument)) (seq (keys (kind_words 2)) (seq blanks two_arguments))

-- INPUT(a), OUTPUT(a), or a = KIND(..)
unfoldable pub statement : Re
statement = alt (seq (keys port_words) (seq blanks one_argument)) (name (mark 61 gate))

-- # and anything but a line feed
unfoldable pub comment : Re
comment =
    seq (sign 35)
    (star (one (0 ∷ 2 ∷ 3 ∷ 4 ∷ 5 ∷ 6 ∷ 7 ∷ 8 ∷ 9 ∷ 10 ∷ 11 ∷ 12 ∷ 13 ∷ 14 ∷ 15 ∷ 16 ∷ 17 ∷ 18 ∷ 19 ∷ 20 ∷ [])))

unfoldable pub line : Re
line = seq blanks (seq (alt eps statement) (alt eps comment))

-- lines, with line feeds between them
unfoldable pub bench : Re
bench = seq line (star (seq (sign 10) line))

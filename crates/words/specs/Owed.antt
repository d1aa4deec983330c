-- What the functions of the words owe each other and their callers; no reader of the promises needs it.
-- Assumes nothing.
use Rattle.std.specs.Prelude.{◌≡◌, Bool, true, ◌&&◌, List, [], ◌∷◌, ℕ, ◌≤◌, ◌<◌, length, take}
use Rattle.ground.specs.Choose.{choose}
use Rattle.ground.specs.Lists.{table}
use Rattle.words.specs.Words.{word_byte, words_in, ends_in}

-- of each byte whether it belongs to a word: w if so, . if not
unfoldable pub WordTable : List ℕ → Type 0
WordTable t = t ≡ table (λ b. choose (word_byte b) 119 46) 256

-- a text of a length that may be, and room for all its words and lines
pub record CutRoom (t ws es : List ℕ) : Type 0 where
  pub short : length t ≤ 32768
  pub for_words : length ws ≡ 16385
  pub for_ends : length es ≡ 32769

-- so many words and lines stand at the front
pub record CutDone (t ws es : List ℕ) (words lines : ℕ) : Type 0 where
  pub some : 0 < lines
  pub most_lines : lines ≤ 32769
  pub most_words : words ≤ 16384
  pub words_are : take words ws ≡ words_in t
  pub lines_are : take lines es ≡ ends_in t

unfoldable pub all_word : List ℕ → Bool
all_word [] = true
all_word (b ∷ l) = word_byte b && all_word l

-- a keyword, to be compared with the word at a byte of a text
pub record KeywordReady (w : List ℕ) (at : ℕ) : Type 0 where
  pub letters : all_word w ≡ true
  pub short : length w < 20
  pub inside : at < 65536

-- The lines of a text that is right in syntax, by their words: two words are an INPUT or an OUTPUT, three or four a gate.
-- `ws` has the first bytes of the text's words, `es` how many of them stand before each line's end.
-- Assumes nothing.
use Rattle.std.specs.Prelude.{List, ℕ, zero, suc, ◌+◌, ◌-◌, eqb, length, get_or}
use Rattle.ground.specs.Choose.{choose}
use Rattle.ground.specs.Lists.{table}
use Rattle.words.specs.Words.{word_at, same}
use Rattle.syntax.specs.Kinds.{input_word}

-- ---- a line's words

-- how many words stand before line k
unfoldable pub start_at : List ℕ → ℕ → ℕ
start_at es zero = 0
start_at es (suc k) = get_or es k 0

-- word j of line k
unfoldable pub word_in : List ℕ → List ℕ → ℕ → ℕ → ℕ
word_in ws es k j = get_or ws (start_at es k + j) 0

-- how many words line k has
unfoldable pub size_at : List ℕ → ℕ → ℕ
size_at es k = get_or es k 0 - start_at es k

-- ---- its form: 1 an input, 2 an output, 3 and 4 a gate with one and with two sources, 0 nothing

unfoldable pub form_of : List ℕ → List ℕ → List ℕ → ℕ → ℕ
form_of t ws es k =
    choose (eqb (size_at es k) 2) (choose (same (word_at t (word_in ws es k 0)) input_word) 1 2)
    (choose (eqb (size_at es k) 3) 3 (choose (eqb (size_at es k) 4) 4 0))

unfoldable pub forms_of : List ℕ → List ℕ → List ℕ → List ℕ
forms_of t ws es = table (form_of t ws es) (length es)

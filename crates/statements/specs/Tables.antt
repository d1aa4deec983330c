-- The statements of a text as tables, in the text's order. A name is given by its first byte.
-- `ws` has the first bytes of the text's words, `es` how many stand before each line's end, `fs` each line's form.
-- Assumes nothing.
use Rattle.std.specs.Prelude.{List, ℕ, ◌+◌, ◌-◌, length, get_or}
use Rattle.ground.specs.Choose.{choose}
use Rattle.ground.specs.Lists.{collect}
use Rattle.words.specs.Words.{word_at}
use Rattle.syntax.specs.Kinds.{kind_of}
use Rattle.forms.specs.Lines.{word_in}
use Rattle.forms.specs.Forms.{says_output, says_gate, defines, inputs_to, gates_to, gates_in}

-- ---- the names that are defined, and the number of each: the gates in the text's order from 0 on, then the inputs

-- the name that line k defines: of a gate its first word, of an input its second
unfoldable pub defined_at : List ℕ → List ℕ → List ℕ → ℕ → ℕ
defined_at ws es fs k = word_in ws es k (choose (says_gate fs k) 0 1)

unfoldable pub number_at : List ℕ → ℕ → ℕ
number_at fs k = choose (says_gate fs k) (gates_to fs k) (gates_in fs + inputs_to fs k)

unfoldable pub defs_of : List ℕ → List ℕ → List ℕ → List ℕ
defs_of ws es fs = collect (defines fs) (defined_at ws es fs) (length fs)

unfoldable pub def_numbers_of : List ℕ → List ℕ
def_numbers_of fs = collect (defines fs) (number_at fs) (length fs)

-- ---- the names that are used: of the outputs, and each gate's first and second source (a gate with one source has it twice)

unfoldable pub outs_of : List ℕ → List ℕ → List ℕ → List ℕ
outs_of ws es fs = collect (says_output fs) (λ k. word_in ws es k 1) (length fs)

unfoldable pub firsts_of : List ℕ → List ℕ → List ℕ → List ℕ
firsts_of ws es fs = collect (says_gate fs) (λ k. word_in ws es k 2) (length fs)

unfoldable pub seconds_of : List ℕ → List ℕ → List ℕ → List ℕ
seconds_of ws es fs = collect (says_gate fs) (λ k. word_in ws es k (get_or fs k 0 - 1)) (length fs)

-- ---- the gates' kinds

unfoldable pub kinds_of : List ℕ → List ℕ → List ℕ → List ℕ → List ℕ
kinds_of t ws es fs = collect (says_gate fs) (λ k. kind_of (word_at t (word_in ws es k 1))) (length fs)

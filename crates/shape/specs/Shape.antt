-- What lines there are in a text that is right in syntax, by their words: none, INPUT or OUTPUT and a name, or a gate, which is its name, its
-- kind and the names of as many sources as that kind has. The grammar says the same with blanks, signs and comments.
-- Assumes nothing.
use Rattle.std.specs.Prelude.{◌≡◌, List, [], ◌∷◌, map, ℕ, ◌+◌, ◌≤◌, ◌<◌, length}
use Rattle.ground.specs.Lists.{table}
use Rattle.gates.specs.Gate.{selector, pins_of}
use Rattle.words.specs.Words.{word_at, words_in, ends_in}
use Rattle.syntax.specs.Kinds.{port_words, kind_words, kind_of, Among}
use Rattle.forms.specs.Lines.{size_at, word_in}

-- the words of a line
pub data Shape : List (List ℕ) → Type 0 where
  blank : Shape []
  port : (p x : List ℕ) → Among port_words p → Shape (p ∷ x ∷ [])
  gate : (x k : List ℕ) (sources : List (List ℕ)) → Among (kind_words (length sources)) k → Shape (x ∷ k ∷ sources)

-- those of line k of a text
unfoldable pub words_on : List ℕ → ℕ → List (List ℕ)
words_on t k = map (word_at t) (table (word_in (words_in t) (ends_in t) k) (size_at (ends_in t) k))

-- word j of line k
abbrev pub word_on : List ℕ → ℕ → ℕ → List ℕ
word_on t k j = word_at t (word_in (words_in t) (ends_in t) k j)

-- line k has a name, a kind of gates that is no selector, and as many sources as the gates' rule has pins for it
pub record GateLine (t : List ℕ) (k : ℕ) : Type 0 where
  pub some_kind : 1 ≤ kind_of (word_on t k 1)
  pub no_selector : kind_of (word_on t k 1) < selector
  pub words : size_at (ends_in t) k ≡ 2 + pins_of (kind_of (word_on t k 1))

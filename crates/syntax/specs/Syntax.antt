-- Which texts are right in syntax, and refusal 14: the first byte that can't go on, or the length of a text that ends early.
-- Assumes nothing.
use Rattle.std.specs.Prelude.{◌≡◌, ◌⊎◌, Bool, ◌&&◌, List, [], ◌∷◌, ◌++◌, ℕ, suc, ◌≤◌, ◌<◌, ltb, length, take}
use Rattle.answers.specs.Rules.{Rule, whole, each}
use Rattle.syntax.specs.Regular.{Has}
use Rattle.syntax.specs.Derivative.{empty, after, live}
use Rattle.syntax.specs.Grammar.{symbols, bench}
use Rattle.answers.specs.declared.Reason.TheVariants.{BenchSyntax}

-- a text may have so many bytes
abbrev pub most_bytes : ℕ
most_bytes = 32768

-- right in syntax, the length left aside: as a test, and in words
unfoldable pub formed : List ℕ → Bool
formed t = empty (after bench (symbols t))

unfoldable pub Formed : List ℕ → Type 0
Formed t = Has bench (symbols t)

-- the byte at i can go on: it is within the room, and some text that is right in syntax begins with the bytes up to and including it
unfoldable pub goes_on : List ℕ → ℕ → Bool
goes_on t i = ltb i most_bytes && live (after bench (symbols (take (suc i) t)))

pub record GoesOn (t : List ℕ) (i : ℕ) : Type 0 where
  pub room : i < most_bytes
  pub rest : List ℕ
  pub right : Formed (take (suc i) t ++ rest)

unfoldable pub syntax_rules : List ℕ → List Rule
syntax_rules t = each BenchSyntax (length t) (goes_on t) (GoesOn t) ∷ whole BenchSyntax (formed t) (Formed t) (length t) ∷ []

-- refusal 14 in the document's words: every byte before i goes on; and byte i can't, or the text ends early, at i
pub record FirstBad (t : List ℕ) (i : ℕ) : Type 0 where
  pub before : (j : ℕ) → j < i → GoesOn t j
  pub here : ((i < length t) × (GoesOn t i → ⊥)) ⊎ ((i ≡ length t) × (Formed t → ⊥))

-- and no refusal 14
pub record RightText (t : List ℕ) : Type 0 where
  pub is_formed : Formed t
  pub room : length t ≤ most_bytes

-- What is asked of a text beyond its syntax, in words over its lines: each name is defined once, each name that is used is defined, and no
-- gate depends on itself.
-- Assumes nothing.
use Rattle.std.specs.Prelude.{◌≡◌, Bool, true, List, ℕ, ◌<◌}
use Rattle.forms.specs.Forms.{says_output, says_gate, defines}
use Rattle.texts.specs.Text.{forms_in}
use Rattle.shape.specs.Shape.{word_on}
use Rattle.equations.specs.Meaning.{lines_in, name_on, source_on}

-- line k is one of those that a test of forms picks: an input, an output, a gate, one that defines a name
pub record Line (test : List ℕ → ℕ → Bool) (t : List ℕ) (k : ℕ) : Type 0 where
  pub inside : k < lines_in t
  pub passes : test (forms_in t) k ≡ true

-- ---- names

-- line k defines the name w
pub record Defines (t : List ℕ) (k : ℕ) (w : List ℕ) : Type 0 where
  pub line : Line defines t k
  pub is : name_on t k ≡ w

-- some line does
abbrev pub Defined : List ℕ → List ℕ → Type 0
Defined t w = (k : ℕ) × Defines t k w

pub record NamesRight (t : List ℕ) : Type 0 where
  pub once : (k l : ℕ) (w : List ℕ) → Defines t k w → Defines t l w → k ≡ l
  pub outputs : (k : ℕ) → Line says_output t k → Defined t (word_on t k 1)
  pub sources : (k : ℕ) → Line says_gate t k → (s : ℕ) → Defined t (source_on t k s)

-- ---- cycles

-- the gate on line h defines the name of a source of the gate on line k
pub record ReadsFrom (t : List ℕ) (k h : ℕ) : Type 0 where
  pub gate : Line says_gate t h
  pub pin : ℕ
  pub is : source_on t k pin ≡ name_on t h

-- from a gate to one that it reads, to one that that reads, and so on
pub data TextWay (t : List ℕ) : ℕ → ℕ → Type 0 where
  last : {k h : ℕ} → ReadsFrom t k h → TextWay t k h
  then : {k h l : ℕ} → ReadsFrom t k h → TextWay t h l → TextWay t k l

-- some gate depends on itself
pub record TextCycle (t : List ℕ) : Type 0 where
  pub line : ℕ
  pub gate : Line says_gate t line
  pub way : TextWay t line line

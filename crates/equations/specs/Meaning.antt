-- What a text means, straight from its equations and with no reference to records: a value for each name, such that each input has the value
-- that is given to it, and each gate's name the value of its kind on the values of its sources' names.
-- Assumes nothing.
use Rattle.std.specs.Prelude.{◌≡◌, true, List, ℕ, ◌-◌, ◌<◌, eqb, length, get_or}
use Rattle.ground.specs.Choose.{choose}
use Rattle.words.specs.Words.{word_at, words_in, ends_in}
use Rattle.syntax.specs.Kinds.{kind_of}
use Rattle.forms.specs.Forms.{says_input, says_gate, inputs_to}
use Rattle.statements.specs.Tables.{defined_at}
use Rattle.shape.specs.Shape.{word_on}
use Rattle.texts.specs.Text.{forms_in}

-- the name that line k defines
abbrev pub name_on : List ℕ → ℕ → List ℕ
name_on t k = word_at t (defined_at (words_in t) (ends_in t) (forms_in t) k)

-- the kind of the gate on line k, and the name of its source at pin s: the third word, or the last
abbrev pub kind_on : List ℕ → ℕ → ℕ
kind_on t k = kind_of (word_on t k 1)

abbrev pub source_on : List ℕ → ℕ → ℕ → List ℕ
source_on t k s = word_on t k (choose (eqb s 1) 2 (get_or (forms_in t) k 0 - 1))

abbrev pub lines_in : List ℕ → ℕ
lines_in t = length (forms_in t)

-- over any values, three or two, with the gates' own rule
pub record Solves {A : Type 0} (gate : ℕ → (ℕ → A) → A) (t : List ℕ) (inputs : ℕ → A) (value : List ℕ → A) : Type 0 where
  pub given : (k : ℕ) → k < lines_in t → says_input (forms_in t) k ≡ true → value (name_on t k) ≡ inputs (inputs_to (forms_in t) k)
  pub equation : (k : ℕ) → k < lines_in t → says_gate (forms_in t) k ≡ true → value (name_on t k) ≡ gate (kind_on t k) (λ s. value (source_on t k s))

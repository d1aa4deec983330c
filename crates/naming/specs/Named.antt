-- What the place of a line says: the text defines a name there, the line is that name's, and it computes what the text says of it.
-- Assumes nothing.
use Rattle.std.specs.Prelude.{◌≡◌, true, List, ℕ, get_or}
use Rattle.gates.specs.Gate.{gate_of}
use Rattle.gates.specs.Boolean.{bool_gate}
use Rattle.simulate.specs.Work.{good_of}
use Rattle.simulate.specs.Boolean.{Vector, good, truth_at}
use Rattle.words.specs.Words.{word_at, words_in, ends_in}
use Rattle.forms.specs.Forms.{says_input, says_gate, defines, inputs_to}
use Rattle.statements.specs.Tables.{defined_at}
use Rattle.texts.specs.Text.{forms_in}
use Rattle.equations.specs.Meaning.{kind_on, source_on}
use Rattle.equations.specs.Right.{Line}
use Rattle.equations.specs.Numbers.{line_for}
use Rattle.equations.specs.Computes.{size_in}

-- line k has the value that the text's line j gives to its name: the input's, or that of the gate on the lines of its sources' names
pub record FollowsText {A : Type 0} (gate : ℕ → (ℕ → A) → A) (t : List ℕ) (inputs value : ℕ → A) (j k : ℕ) : Type 0 where
  pub given : says_input (forms_in t) j ≡ true → value k ≡ inputs (inputs_to (forms_in t) j)
  pub equation : says_gate (forms_in t) j ≡ true → value k ≡ gate (kind_on t j) (λ s. value (line_for t (source_on t j s)))

-- line k of the records c, and the byte `place` of the text t
pub record OwnName (t c : List ℕ) (k place : ℕ) : Type 0 where
  -- the line of the text that defines a name there
  pub line : ℕ
  pub says : Line defines t line
  pub stands : place ≡ defined_at (words_in t) (ends_in t) (forms_in t) line
  -- the name at that place is this line's
  pub own : line_for t (word_at t place) ≡ k
  -- for every pattern, with three values
  pub values : (p : List ℕ) → FollowsText gate_of t (λ j. get_or p j 0) (λ i. get_or (good_of c p (size_in t)) i 0) line k
  -- for every complete vector, over Bool
  pub truths : (x : Vector) → FollowsText bool_gate t x (truth_at good c x (size_in t)) line k

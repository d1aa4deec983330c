-- What is promised of a text beyond the bytes that are written: which texts are accepted, and that the records are then a circuit that
-- computes what the text says.
-- Assumes nothing.
use Rattle.std.specs.Prelude.{◌≡◌, ◌↔◌, Bool, true, ◌&&◌, List, ℕ, ◌+◌, ◌≤◌, ◌<◌, get_or, Ok}
use Rattle.ground.specs.Below.{any_below, count_below}
use Rattle.gates.specs.Gate.{pins_of, gate_of}
use Rattle.gates.specs.Boolean.{bool_gate}
use Rattle.circuit.specs.Record as record_of
use Rattle.circuit.specs.Promise.{check_of, counts_are}
use Rattle.simulate.specs.Work.{good_of}
use Rattle.simulate.specs.Boolean.{Vector, good, truth_at}
use Rattle.words.specs.Words.{same}
use Rattle.syntax.specs.Syntax.{RightText}
use Rattle.forms.specs.Forms.{says_input, says_output, says_gate, defines, inputs_to, inputs_in, gates_in}
use Rattle.texts.specs.Text.{forms_in}
use Rattle.shape.specs.Shape.{word_on}
use Rattle.equations.specs.Meaning.{lines_in, name_on, kind_on, source_on, Solves}
use Rattle.equations.specs.Right.{Line, Defined, NamesRight, TextCycle}
use Rattle.equations.specs.Numbers.{line_for}
use Rattle.equations.specs.Placing.{InOrder}

-- how many lines the records have
abbrev pub size_in : List ℕ → ℕ
size_in t = inputs_in (forms_in t) + gates_in (forms_in t)

-- ---- which texts are accepted

pub record Acceptable (t : List ℕ) : Type 0 where
  pub syntax : RightText t
  pub names : NamesRight t
  pub no_cycle : TextCycle t → ⊥
  pub few_lines : size_in t ≤ 2048
  pub few_inputs : inputs_in (forms_in t) ≤ 64
  pub has_output : (k : ℕ) × Line says_output t k

-- ---- lines and names

-- each name that is defined has a line of its own, each line is some name's, and the inputs' come first, in the text's order
pub record OwnLines (t : List ℕ) : Type 0 where
  pub inside : (w : List ℕ) → Defined t w → line_for t w < size_in t
  pub apart : (v w : List ℕ) → Defined t v → Defined t w → line_for t v ≡ line_for t w → v ≡ w
  pub all : (k : ℕ) → k < size_in t → (w : List ℕ) × Defined t w × (line_for t w ≡ k)
  pub inputs_first : (k : ℕ) → Line says_input t k → line_for t (name_on t k) ≡ inputs_to (forms_in t) k

-- the records by the names of their lines: an input's has kind 0, a gate's its kind, and at each pin of it the line of the source's name
pub record OwnRecords (t c : List ℕ) : Type 0 where
  pub input : (k : ℕ) → Line says_input t k → record_of.kind_at c (line_for t (name_on t k)) ≡ 0
  pub kind : (k : ℕ) → Line says_gate t k → record_of.kind_at c (line_for t (name_on t k)) ≡ kind_on t k
  pub pin : (k : ℕ) → Line says_gate t k → (s : ℕ) → 1 ≤ s → s ≤ pins_of (kind_on t k) → record_of.pin_at c (line_for t (name_on t k)) s ≡ line_for t (source_on t k s)

-- the name w stands in some OUTPUT
pub record IsOutput (t w : List ℕ) : Type 0 where
  pub place : ℕ
  pub line : Line says_output t place
  pub is : word_on t place 1 ≡ w

-- as a test
unfoldable pub output_name : List ℕ → List ℕ → Bool
output_name t w = any_below (lines_in t) (λ k. says_output (forms_in t) k && same (word_on t k 1) w)

-- how many names are outputs, by the lines that define them
unfoldable pub outputs_in : List ℕ → ℕ
outputs_in t = count_below (lines_in t) (λ k. defines (forms_in t) k && output_name t (name_on t k))

-- ---- what the records compute

-- these values solve the text's equations, and whatever solves them has the same value for each name that is defined
pub record OneSolution {A : Type 0} (gate : ℕ → (ℕ → A) → A) (t : List ℕ) (inputs : ℕ → A) (value : List ℕ → A) : Type 0 where
  pub solves : Solves gate t inputs value
  pub only : (other : List ℕ → A) → Solves gate t inputs other → (w : List ℕ) → Defined t w → other w ≡ value w

-- the records c of the text t
pub record Computes (t c : List ℕ) : Type 0 where
  pub check : check_of c ≡ Ok (counts_are (size_in t) (inputs_in (forms_in t)) (outputs_in t))
  pub lines : OwnLines t
  pub gates : InOrder t
  pub records : OwnRecords t c
  pub outputs : (k : ℕ) → k < size_in t → (record_of.is_output c k ≡ true) ↔ ((w : List ℕ) × IsOutput t w × (line_for t w ≡ k))
  -- for every pattern, with three values
  pub values : (p : List ℕ) → OneSolution gate_of t (λ j. get_or p j 0) (λ w. get_or (good_of c p (size_in t)) (line_for t w) 0)
  -- for every complete vector, over Bool
  pub truths : (x : Vector) → OneSolution bool_gate t x (λ w. truth_at good c x (size_in t) (line_for t w))

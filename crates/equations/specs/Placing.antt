-- The order of the gates over the text itself, by lines and names: always the earliest gate in the text whose sources are placed; and the first
-- gate in the text that can't be placed. `p` has the lines of the gates that are placed so far, in the order in which they were.
-- Assumes nothing.
use Rattle.std.specs.Prelude.{◌≡◌, true, false, List, [], ◌∷◌, ◌++◌, ℕ, ◌+◌, ◌≤◌, ◌<◌, length, get_or}
use Rattle.ground.specs.Lists.{elem}
use Rattle.gates.specs.Gate.{pins_of}
use Rattle.forms.specs.Forms.{says_input, says_gate, gates_to, inputs_in}
use Rattle.texts.specs.Text.{forms_in}
use Rattle.equations.specs.Meaning.{name_on, kind_on, source_on}
use Rattle.equations.specs.Right.{Line}
use Rattle.equations.specs.Numbers.{line_for}

-- ---- always the earliest

-- the name w is an input's, or that of a gate that is placed
pub data There (t p w : List ℕ) : Type 0 where
  input : (k : ℕ) → Line says_input t k → name_on t k ≡ w → There t p w
  gate : (k : ℕ) → Line says_gate t k → elem p k ≡ true → name_on t k ≡ w → There t p w

-- the gate on line k is not placed yet, and at each pin of its kind the source is there
pub record Placeable (t p : List ℕ) (k : ℕ) : Type 0 where
  pub gate : Line says_gate t k
  pub waits : elem p k ≡ false
  pub sources : (s : ℕ) → 1 ≤ s → s ≤ pins_of (kind_on t k) → There t p (source_on t k s)

pub record EarliestGate (t p : List ℕ) (k : ℕ) : Type 0 where
  pub is_ready : Placeable t p k
  pub none_before : (h : ℕ) → h < k → Placeable t p h → ⊥

-- p is placed, in this order
pub data TextOrder (t : List ℕ) : List ℕ → Type 0 where
  nothing : TextOrder t []
  next : {q : List ℕ} (p : List ℕ) (k : ℕ) → TextOrder t p → EarliestGate t p k → q ≡ p ++ (k ∷ []) → TextOrder t q

-- p is placed, and nothing more can be
pub record TextPlaced (t p : List ℕ) : Type 0 where
  pub steps : TextOrder t p
  pub ended : (k : ℕ) → Placeable t p k → ⊥

-- ---- the lines of the records behind the inputs': there is one order, it has every gate, and gate i of it stands on the i-th of them
pub record InOrder (t : List ℕ) : Type 0 where
  pub order : List ℕ
  pub placed : TextPlaced t order
  pub only : (p : List ℕ) → TextPlaced t p → p ≡ order
  pub every : (k : ℕ) → Line says_gate t k → elem order k ≡ true
  pub lines : (i : ℕ) → i < length order → line_for t (name_on t (get_or order i 0)) ≡ inputs_in (forms_in t) + i

-- ---- the gate that refusal 16 names

-- the gate on line k can be placed
pub record TextPlaces (t : List ℕ) (k : ℕ) : Type 0 where
  pub order : List ℕ
  pub steps : TextOrder t order
  pub placed : elem order k ≡ true

-- gate g of the text, from 0, can't be placed, and each gate before it in the text can
pub record FirstLeft (t : List ℕ) (g : ℕ) : Type 0 where
  pub line : ℕ
  pub gate : Line says_gate t line
  pub number : gates_to (forms_in t) line ≡ g
  pub left : TextPlaces t line → ⊥
  pub first : (k : ℕ) → k < line → Line says_gate t k → TextPlaces t k

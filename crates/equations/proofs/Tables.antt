-- The tables of a text, line by line: what stands in each for a line, and which line each entry is from.
-- Assumes nothing.
use mathlib.Core.Path.{◌≡◌, refl, sym, ap, ◌∙◌}
use mathlib.Core.Bool.{Bool, true, false, ◌||◌}
use mathlib.Core.List.{List, [], ◌∷◌, ◌++◌, map}
use Prim.Native.Nat.{ℕ, zero, suc, ◌+◌, ◌-◌, ◌<◌}
use native.Mathlib.Nat.{le_of_suc-le-suc}
use native.Mathlib.Omega.{arith}
use lib.Dec.{eqb}
use lib.ListN.{length, get_or, length-map, get_or-append}
use lib.Seq.{get_or-append-add}
use borrow.Author.Tests.{eqb-true, lt-leb}
use Rattle.ground.specs.Choose.{choose}
use Rattle.ground.specs.Below.{count_below}
use Rattle.ground.specs.Lists.{collect}
use Rattle.ground.proofs.Counting.{count_below_lem}
use Rattle.ground.proofs.Counting as counting
use Rattle.ground.proofs.Lists.{collect-length}
use Rattle.ground.proofs.Collect.{collect_get}
use Rattle.words.specs.Words.{word_at, words_in, ends_in}
use Rattle.syntax.specs.Kinds.{kind_of}
use Rattle.forms.specs.Lines.{word_in}
use Rattle.forms.specs.Forms.{says_input, says_output, says_gate, defines, inputs_to, gates_to, inputs_in, gates_in}
use Rattle.statements.specs.Tables.{defined_at, number_at, defs_of, def_numbers_of, outs_of, firsts_of, seconds_of, kinds_of}
use Rattle.statements.proofs.Lengths.{outs_length, firsts_length}
use Rattle.records.specs.Net.{gates_of, pin_of}
use Rattle.names.specs.Names as names
use Rattle.texts.specs.Text.{forms_in, defs_in, outs_in, firsts_in, number_in, net_in}
use Rattle.shape.specs.Shape.{word_on}
use Rattle.equations.specs.Meaning.{lines_in, name_on, kind_on, source_on}
use Rattle.equations.specs.Right.{Line}
use Rattle.equations.specs.Numbers.{gate_names, input_names, name_of, number_for}

-- ---- any table

-- how many lines before line k pass a test: the place of line k in a table of them
abbrev pub place_of : (List ℕ → ℕ → Bool) → List ℕ → ℕ → ℕ
place_of test t k = count_below k (test (forms_in t))

-- f of each line that passes
abbrev pub text_table : (List ℕ → ℕ → Bool) → List ℕ → (ℕ → ℕ) → List ℕ
text_table test t f = collect (test (forms_in t)) f (lines_in t)

-- the line of entry j
pub record NthLine (test : List ℕ → ℕ → Bool) (t : List ℕ) (j : ℕ) : Type 0 where
  pub place : ℕ
  pub line : Line test t place
  pub before : place_of test t place ≡ j

pub nth : (test : List ℕ → ℕ → Bool) (t : List ℕ) {j : ℕ} → j < place_of test t (lines_in t) → NthLine test t j
nth test t {j} l =
    let w = counting.nth (test (forms_in t)) (lines_in t) j l in
    record { place = w.place; line = record { inside = w.below; passes = w.passes }; before = w.before }

pub map_get : (f : ℕ → ℕ) (l : List ℕ) (k : ℕ) → k < length l → get_or (map f l) k 0 ≡ f (get_or l k 0)
map_get f [] k h = elim h [ ]
map_get f (x ∷ l) zero h = refl
map_get f (x ∷ l) (suc k) h = map_get f l k (le_of_suc-le-suc h)

module _ {test : List ℕ → ℕ → Bool} {t : List ℕ} {k : ℕ} (l : Line test t k) where
  pub counted : place_of test t k < place_of test t (lines_in t)
  counted = count_below_lem (test (forms_in t)) k (lines_in t) l.inside l.passes

  module _ (f : ℕ → ℕ) where
    pub get : get_or (text_table test t f) (place_of test t k) 0 ≡ f k
    get = collect_get (test (forms_in t)) f (lines_in t) k l.inside l.passes

    pub get_inside : place_of test t k < length (text_table test t f)
    get_inside = omega (arith, counted, collect-length (test (forms_in t)) f (lines_in t))

    pub get_number : get_or (map (number_in t) (text_table test t f)) (place_of test t k) 0 ≡ number_for t (word_at t (f k))
    unfolding number_for names.name_number
    get_number = map_get (number_in t) (text_table test t f) (place_of test t k) get_inside ∙ ap (number_in t) get

-- ---- the tables of the net

module _ (t : List ℕ) where
  pub gates_are : gates_of (net_in t) ≡ gates_in (forms_in t)
  unfolding net_in
  gates_are = length-map (firsts_in t) (number_in t) ∙ firsts_length (words_in t) (ends_in t) (forms_in t)

  pub inputs_are : (net_in t).inputs ≡ inputs_in (forms_in t)
  unfolding net_in
  inputs_are = refl

  pub outputs_are : length (net_in t).outputs ≡ place_of says_output t (lines_in t)
  unfolding net_in
  outputs_are = length-map (outs_in t) (number_in t) ∙ outs_length (words_in t) (ends_in t) (forms_in t)

-- the line of a gate, of an input, of an output
pub gate-line : (t : List ℕ) {g : ℕ} → g < gates_of (net_in t) → NthLine says_gate t g
gate-line t l = nth says_gate t (omega (arith, gates_are t))

pub input-line : (t : List ℕ) {j : ℕ} → j < (net_in t).inputs → NthLine says_input t j
input-line t l = nth says_input t (omega (arith, inputs_are t))

pub output_line : (t : List ℕ) {i : ℕ} → i < length (net_in t).outputs → NthLine says_output t i
output_line t l = nth says_output t (omega (arith, outputs_are t))

module _ {t : List ℕ} {k : ℕ} where
  pub output_get : Line says_output t k → get_or (net_in t).outputs (place_of says_output t k) 0 ≡ number_for t (word_on t k 1)
  unfolding net_in outs_of
  output_get l = get_number l (λ i. word_in (words_in t) (ends_in t) i 1)

  pub def_get : Line defines t k → word_at t (get_or (defs_in t) (place_of defines t k) 0) ≡ name_on t k
  unfolding defs_of
  def_get l = ap (word_at t) (get l (defined_at (words_in t) (ends_in t) (forms_in t)))

  pub def_inside : Line defines t k → place_of defines t k < length (defs_in t)
  unfolding defs_of
  def_inside l = get_inside l (defined_at (words_in t) (ends_in t) (forms_in t))

  pub number_get : Line defines t k → get_or (def_numbers_of (forms_in t)) (place_of defines t k) 0 ≡ number_at (forms_in t) k
  unfolding def_numbers_of
  number_get l = get l (number_at (forms_in t))

  module _ (l : Line says_gate t k) where
    pub kind_get : get_or (net_in t).kinds (gates_to (forms_in t) k) 0 ≡ kind_on t k
    unfolding net_in kinds_of
    kind_get = get l (λ i. kind_of (word_at t (word_in (words_in t) (ends_in t) i 1)))

    first_get : get_or (net_in t).firsts (gates_to (forms_in t) k) 0 ≡ number_for t (word_on t k 2)
    unfolding net_in firsts_of
    first_get = get_number l (λ i. word_in (words_in t) (ends_in t) i 2)

    second_get : get_or (net_in t).seconds (gates_to (forms_in t) k) 0 ≡ number_for t (word_on t k (get_or (forms_in t) k 0 - 1))
    unfolding net_in seconds_of
    second_get = get_number l (λ i. word_in (words_in t) (ends_in t) i (get_or (forms_in t) i 0 - 1))

    -- the number at a pin is that of the source's name
    pub pin_get : (s : ℕ) → pin_of (net_in t) (gates_to (forms_in t) k) s ≡ number_for t (source_on t k s)
    unfolding pin_of
    pin_get s = go (eqb s 1)
      where
        go : (b : Bool)
            → choose b (get_or (net_in t).firsts (gates_to (forms_in t) k) 0) (get_or (net_in t).seconds (gates_to (forms_in t) k) 0)
            ≡ number_for t (word_on t k (choose b 2 (get_or (forms_in t) k 0 - 1)))
        go true = first_get
        go false = second_get

-- ---- numbers and names

module _ {t : List ℕ} {k : ℕ} where
  pub gate-number : Line says_gate t k → number_at (forms_in t) k ≡ gates_to (forms_in t) k
  unfolding number_at
  gate-number l = rw l.passes

  gate-name : Line says_gate t k → name_of t (gates_to (forms_in t) k) ≡ name_on t k
  unfolding name_of gate_names
  gate-name l =
      let f = defined_at (words_in t) (ends_in t) (forms_in t) in
      ap (word_at t) (get_or-append (gate_names t) (input_names t) 0 (gates_to (forms_in t) k) (get_inside l f) ∙ get l f)

  pub input-number : Line says_input t k → number_at (forms_in t) k ≡ gates_in (forms_in t) + inputs_to (forms_in t) k
  unfolding number_at
  input-number l =
      let e = eqb-true (get_or (forms_in t) k 0) 1 l.passes in
      let no-gate : says_gate (forms_in t) k ≡ false = lt-leb 3 (get_or (forms_in t) k 0) (omega arith) in
      rw no-gate

  input-name : Line says_input t k → name_of t (gates_in (forms_in t) + inputs_to (forms_in t) k) ≡ name_on t k
  unfolding name_of gate_names input_names
  input-name l =
      let f = defined_at (words_in t) (ends_in t) (forms_in t) in
      ap (word_at t)
      (ap (λ (n : ℕ). get_or (gate_names t ++ input_names t) (n + inputs_to (forms_in t) k) 0) (sym (collect-length (says_gate (forms_in t)) f (lines_in t)))
      ∙ get_or-append-add (gate_names t) (input_names t) (inputs_to (forms_in t) k) 0
      ∙ get l f)

  -- a line that defines a name is a gate or an input
  pub by_cases : {P : Type 0} → (Line says_gate t k → P) → (Line says_input t k → P) → Line defines t k → P
  by_cases {P} g i l = go (says_input (forms_in t) k) refl l.passes
    where
      go : (b : Bool) → says_input (forms_in t) k ≡ b → (b || says_gate (forms_in t) k) ≡ true → P
      go true q e = i (record { inside = l.inside; passes = q })
      go false q e = g (record { inside = l.inside; passes = e })

  pub name_of_number : Line defines t k → name_of t (number_at (forms_in t) k) ≡ name_on t k
  name_of_number = by_cases (λ l. rw (gate-number l) (gate-name l)) (λ l. rw (input-number l) (input-name l))

  pub number_inside : Line defines t k → number_at (forms_in t) k < inputs_in (forms_in t) + gates_in (forms_in t)
  number_inside = by_cases (λ l. rw (gate-number l) (omega (arith, counted l))) (λ l. rw (input-number l) (omega (arith, counted l)))

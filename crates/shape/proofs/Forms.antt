-- What a line's form says in a right text: 1 is an INPUT, 2 an OUTPUT, 3 and 4 a gate of a kind with one and with two sources, 0 nothing.
-- Assumes nothing.
use mathlib.Core.Path.{◌≡◌, sym, ap, ◌∙◌, subst}
use mathlib.Core.Logic.{◌⊎◌, inl, inr, ⊎_elim}
use mathlib.Core.Bool.{true, false}
use mathlib.Core.List.{List}
use Prim.Native.Nat.{ℕ, ◌+◌, ◌≤◌, ◌<◌}
use native.Mathlib.Omega.{arith}
use lib.ListN.{length, get_or, get_or-eq_default}
use borrow.Author.Tests.{leb-true}
use Rattle.ground.specs.Choose.{choose}
use Rattle.ground.proofs.Tests.{either}
use Rattle.gates.specs.Gate.{selector, pins_of}
use Rattle.gates.proofs.Laws.{two_pins, gate-pin}
use Rattle.words.specs.Words.{same, words_in, ends_in}
use Rattle.words.proofs.Same.{same_refl}
use Rattle.syntax.specs.Kinds.{input_word, output_word, port_words, kind_of, Among}
use Rattle.syntax.proofs.KindTable.{no_selector, Named, kind_named}
use Rattle.syntax.specs.Syntax.{Formed}
use Rattle.forms.specs.Lines.{size_at, form_of, forms_of}
use Rattle.forms.specs.Forms.{says_gate}
use Rattle.forms.proofs.Forms.{forms_length, forms_get}
use Rattle.shape.specs.Shape.{word_on, GateLine}
use Rattle.shape.proofs.Statements.{line-told}

-- what line k is, by its form
pub data LineSays (t : List ℕ) (k : ℕ) : ℕ → Type 0 where
  nothing : size_at (ends_in t) k ≡ 0 → LineSays t k 0
  input : size_at (ends_in t) k ≡ 2 → word_on t k 0 ≡ input_word → LineSays t k 1
  output : size_at (ends_in t) k ≡ 2 → word_on t k 0 ≡ output_word → LineSays t k 2
  gate : (n : ℕ) → size_at (ends_in t) k ≡ 2 + n → Named n (word_on t k 1) → LineSays t k (2 + n)

is-input : (w : List ℕ) → w ≡ input_word → same w input_word ≡ true
is-input w e = ap (λ (v : List ℕ). same v input_word) e ∙ same_refl input_word

no-input : (w : List ℕ) → w ≡ output_word → same w input_word ≡ false
unfolding same output_word input_word
no-input w e = ap (λ (v : List ℕ). same v input_word) e

one_or_two : (kind : ℕ) → 1 ≤ kind → kind < selector → (pins_of kind ≡ 1) ⊎ (pins_of kind ≡ 2)
one_or_two kind some named =
    let least = gate-pin kind (λ e. omega arith) in
    let most = two_pins kind (λ e. omega arith) in
    ⊎_elim (λ l. inl (omega arith)) (λ l. inr (omega arith)) (either (pins_of kind) 2)

module _ (t : List ℕ) (f : Formed t) (k : ℕ) (h : k < length (ends_in t)) where
  port_says : size_at (ends_in t) k ≡ 2 → Among port_words (word_on t k 0) → LineSays t k (choose (same (word_on t k 0) input_word) 1 2)
  port_says e a =
      ⊎_elim (λ i. rw (is-input (word_on t k 0) i) (input e i))
      (λ m. ⊎_elim (λ o. rw (no-input (word_on t k 0) o) (output e o)) (λ z. absurd z) m)
      a

  -- its form where it has as many words as a kind with n sources
  gate_says : (n : ℕ) → size_at (ends_in t) k ≡ 2 + n → Named n (word_on t k 1) → LineSays t k (form_of t (words_in t) (ends_in t) k)
  unfolding form_of
  gate_says n e m =
      ⊎_elim
      (λ p. let one : n ≡ 1 = sym m.pins ∙ p in rw (e, one) (gate 1 (e ∙ ap (λ (i : ℕ). 2 + i) one) (rw one at m)))
      (λ p. let two : n ≡ 2 = sym m.pins ∙ p in rw (e, two) (gate 2 (e ∙ ap (λ (i : ℕ). 2 + i) two) (rw two at m)))
      (one_or_two (kind_of (word_on t k 1)) m.some (no_selector (word_on t k 1)))

  pub line_says : LineSays t k (form_of t (words_in t) (ends_in t) k)
  unfolding form_of
  line_says =
      ⊎_elim (λ e. rw e (nothing e))
      (λ m. ⊎_elim (λ (e, a). rw e (port_says e a)) (λ (n, e, a). gate_says n e (kind_named n (word_on t k 1) a)) m)
      (line-told t f k h)

-- ---- the forms' table

-- a line with some form is there
pub form_inside : (t : List ℕ) (k : ℕ) → 1 ≤ get_or (forms_of t (words_in t) (ends_in t)) k 0 → k < length (ends_in t)
form_inside t k e =
    ⊎_elim (λ l. l)
    (λ n.
    let past = get_or-eq_default (forms_of t (words_in t) (ends_in t)) 0 {n = k} (omega (arith, forms_length t (words_in t) (ends_in t))) in
    absurd (omega arith))
    (either k (length (ends_in t)))

pub form_says : (t : List ℕ) → Formed t → (k : ℕ) → 1 ≤ get_or (forms_of t (words_in t) (ends_in t)) k 0 → LineSays t k (get_or (forms_of t (words_in t) (ends_in t)) k 0)
form_says t f k e = let h = form_inside t k e in subst (LineSays t k) (sym (forms_get t (words_in t) (ends_in t) k h)) (line_says t f k h)

-- ---- the end results

gate_from : {t : List ℕ} {k n : ℕ} → LineSays t k n → 3 ≤ n → GateLine t k × (n ≡ size_at (ends_in t) k)
gate_from (nothing e) l = absurd (omega arith)
gate_from (input e w) l = absurd (omega arith)
gate_from (output e w) l = absurd (omega arith)
gate_from (gate n e m) l = (
  record { some_kind = m.some; no_selector = no_selector _; words = e ∙ ap (λ (i : ℕ). 2 + i) (sym m.pins) },
  sym e,
)

module _ (t : List ℕ) (f : Formed t) (k : ℕ) where
  -- a gate's line has as many sources as its kind has pins, and its form is the number of its words
  pub gate_sources : says_gate (forms_of t (words_in t) (ends_in t)) k ≡ true
      → GateLine t k × (get_or (forms_of t (words_in t) (ends_in t)) k 0 ≡ size_at (ends_in t) k)
  gate_sources e = let l = leb-true 3 (get_or (forms_of t (words_in t) (ends_in t)) k 0) e in gate_from (form_says t f k (omega arith)) l

-- Line k of a right text: it has no word, or those of an INPUT or OUTPUT, or those of a gate.
-- Assumes nothing.
use mathlib.Core.Path.{◌≡◌, sym, ap, ◌∙◌, subst}
use mathlib.Core.Logic.{◌⊎◌, inl, inr}
use mathlib.Core.List.{List, map}
use Prim.Native.Nat.{ℕ, ◌+◌, ◌<◌}
use native.Mathlib.Omega.{arith}
use lib.ListN.{length, get_or, length-map, get_or-map}
use lib.Seq.{ext_get_or}
use Rattle.ground.specs.Lists.{table}
use Rattle.ground.proofs.Grow.{table-length, table_at}
use Rattle.words.specs.Words.{word_at, words_in, ends_in}
use Rattle.syntax.specs.Kinds.{port_words, kind_words, Among}
use Rattle.syntax.specs.Syntax.{Formed}
use Rattle.forms.specs.Lines.{word_in, size_at}
use Rattle.shape.specs.Shape.{Shape, blank, port, gate, words_on, word_on}
use Rattle.shape.proofs.Rows.{StateRow, row_at}
use Rattle.shape.proofs.Texts.{rows_of}

-- ---- the words of line k

row-table : {t ws es : List ℕ} {k : ℕ} (r : StateRow t ws es k) → r.row ≡ table (word_in ws es k) (size_at es k)
unfolding size_at
row-table {t} {ws} {es} {k} r =
    let n : length r.row ≡ size_at es k = omega (arith, r.end) in
    ext_get_or 0 r.row (table (word_in ws es k) (size_at es k)) (n ∙ sym (table-length (word_in ws es k) (size_at es k)))
    (λ j h. sym (table_at (word_in ws es k) (size_at es k) 0 j (omega (arith, n)) ∙ r.words j h))

-- they are a statement's, or there are none
pub line-shape : (t : List ℕ) → Formed t → (k : ℕ) → k < length (ends_in t) → Shape (words_on t k)
unfolding words_on
line-shape t f k h =
    let r = row_at (rows_of t f) k h in
    subst (λ (l : List ℕ). Shape (map (word_at t) l)) (row-table r) r.shape

module _ (t : List ℕ) (k : ℕ) where
  words_long : length (words_on t k) ≡ size_at (ends_in t) k
  unfolding words_on
  words_long =
      length-map (table (word_in (words_in t) (ends_in t) k) (size_at (ends_in t) k)) (word_at t)
      ∙ table-length (word_in (words_in t) (ends_in t) k) (size_at (ends_in t) k)

  words_at : (j : ℕ) → j < size_at (ends_in t) k → get_or (words_on t k) j (word_at t 0) ≡ word_on t k j
  unfolding words_on
  words_at j l =
      get_or-map (word_at t) (table (word_in (words_in t) (ends_in t) k) (size_at (ends_in t) k)) j 0
      ∙ ap (word_at t) (table_at (word_in (words_in t) (ends_in t) k) (size_at (ends_in t) k) 0 j l)

-- ---- what a line says

-- by its number of words, its first and its second: nothing, INPUT or OUTPUT, or a gate with n sources
abbrev pub StatementTold : ℕ → List ℕ → List ℕ → Type 0
StatementTold size first second = (size ≡ 0) ⊎ (((size ≡ 2) × Among port_words first) ⊎ ((n : ℕ) × (size ≡ 2 + n) × Among (kind_words n) second))

told : {ws : List (List ℕ)} → Shape ws → {size : ℕ} → length ws ≡ size → (d : List ℕ) {word : ℕ → List ℕ} → ((j : ℕ) → j < size → get_or ws j d ≡ word j)
    → StatementTold size (word 0) (word 1)
told blank e d f = inl (sym e)
told (port p x a) e d f = inr (inl (sym e, subst (Among port_words) (f 0 (omega arith)) a))
told (gate x k s a) e d f = inr (inr (length s, omega arith, subst (Among (kind_words (length s))) (f 1 (omega arith)) a))

pub line-told : (t : List ℕ) → Formed t → (k : ℕ) → k < length (ends_in t) → StatementTold (size_at (ends_in t) k) (word_on t k 0) (word_on t k 1)
line-told t f k h = told (line-shape t f k h) (words_long t k) (word_at t 0) (words_at t k)

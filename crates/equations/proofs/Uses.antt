-- Definitions and uses of names are those of lines: what stands in the tables of bytes stands on some line.
-- Assumes nothing.
use mathlib.Core.Path.{◌≡◌, refl, sym, ap, ◌∙◌}
use mathlib.Core.Bool.{Bool, true, false, ◌||◌, or-true}
use mathlib.Core.List.{List, ◌++◌}
use Prim.Native.Nat.{ℕ, ◌-◌, ◌<◌}
use native.Mathlib.Omega.{arith}
use lib.Dec.{eqb}
use lib.ListN.{length, get_or}
use Rattle.ground.specs.Choose.{choose}
use Rattle.ground.specs.Lists.{elem}
use Rattle.ground.proofs.Lists.{collect-length}
use Rattle.ground.proofs.Elem.{elem_at, elem_place, elem_append}
use Rattle.words.specs.Words.{word_at, words_in, ends_in}
use Rattle.forms.specs.Lines.{word_in}
use Rattle.forms.specs.Forms.{says_output, says_gate, defines}
use Rattle.statements.specs.Tables.{defined_at, defs_of, outs_of, firsts_of, seconds_of}
use Rattle.statements.proofs.Sizes.{Inside, outs_within, firsts_within, seconds_within}
use Rattle.texts.specs.Text.{forms_in, defs_in, outs_in, firsts_in, seconds_in, uses_in}
use Rattle.shape.specs.Shape.{word_on}
use Rattle.equations.specs.Meaning.{lines_in, source_on}
use Rattle.equations.specs.Right.{Line, Defines}
use Rattle.equations.proofs.Tables.{place_of, text_table, NthLine, nth, get, get_inside, def_get}

-- ---- what is collected stands in the table, and what stands in the table is collected

collected : {test : List ℕ → ℕ → Bool} {t : List ℕ} {k : ℕ} → Line test t k → (f : ℕ → ℕ) → elem (text_table test t f) (f k) ≡ true
collected {test} {t} {k} l f = rw (← get l f) (elem_at (text_table test t f) (place_of test t k) (get_inside l f))

record Entry (test : List ℕ → ℕ → Bool) (t : List ℕ) (f : ℕ → ℕ) (x : ℕ) : Type 0 where
  place : ℕ
  line : Line test t place
  is : f place ≡ x

entry : (test : List ℕ → ℕ → Bool) (t : List ℕ) (f : ℕ → ℕ) (x : ℕ) → elem (text_table test t f) x ≡ true → Entry test t f x
entry test t f x e =
    let p = elem_place (text_table test t f) x e in
    let n = nth test t {j = p.0} (omega (arith, p.1, collect-length (test (forms_in t)) f (lines_in t))) in
    record { place = n.place; line = n.line; is = sym (get n.line f) ∙ ap (λ (j : ℕ). get_or (text_table test t f) j 0) n.before ∙ p.2 }

-- ---- definitions

module _ (t : List ℕ) where
  pub def_line : (d : ℕ) → d < length (defs_in t) → NthLine defines t d
  unfolding defs_of
  def_line d l = nth defines t (omega (arith, collect-length (defines (forms_in t)) (defined_at (words_in t) (ends_in t) (forms_in t)) (lines_in t)))

  pub def_defines : {d : ℕ} (n : NthLine defines t d) {w : List ℕ} → word_at t (get_or (defs_in t) d 0) ≡ w → Defines t n.place w
  def_defines n e = record { line = n.line; is = sym (def_get n.line) ∙ ap (λ (d : ℕ). word_at t (get_or (defs_in t) d 0)) n.before ∙ e }

-- ---- uses

or_right : (a : Bool) {b : Bool} → b ≡ true → (a || b) ≡ true
or_right a e = rw (e, or-true)

or_cases : (a b : Bool) {P : Type 0} → (a ≡ true → P) → (b ≡ true → P) → (a || b) ≡ true → P
or_cases true b f g e = f refl
or_cases false b f g e = g e

module _ (t : List ℕ) where
  -- the byte of an output's name, and of the name of a gate's source at pin s
  abbrev pub output_at : ℕ → ℕ
  output_at k = word_in (words_in t) (ends_in t) k 1

  abbrev pub source_at : ℕ → ℕ → ℕ
  source_at k s = word_in (words_in t) (ends_in t) k (choose (eqb s 1) 2 (get_or (forms_in t) k 0 - 1))

  pub used_output : {k : ℕ} → Line says_output t k → elem (uses_in t) (output_at k) ≡ true
  unfolding outs_of
  used_output {k} l = rw (elem_append (outs_in t) (firsts_in t ++ seconds_in t) (output_at k), collected l output_at)

  pub used_source : {k : ℕ} → Line says_gate t k → (s : ℕ) → elem (uses_in t) (source_at k s) ≡ true
  unfolding firsts_of seconds_of
  used_source {k} l s =
      rw (elem_append (outs_in t) (firsts_in t ++ seconds_in t) (source_at k s), elem_append (firsts_in t) (seconds_in t) (source_at k s))
      (or_right (elem (outs_in t) (source_at k s)) (go (eqb s 1)))
    where
      at : Bool → ℕ
      at b = word_in (words_in t) (ends_in t) k (choose b 2 (get_or (forms_in t) k 0 - 1))

      go : (b : Bool) → (elem (firsts_in t) (at b) || elem (seconds_in t) (at b)) ≡ true
      go true = rw (collected l (λ i. word_in (words_in t) (ends_in t) i 2))
      go false = or_right (elem (firsts_in t) (at false)) (collected l (λ i. word_in (words_in t) (ends_in t) i (get_or (forms_in t) i 0 - 1)))

  -- a use is an output's or a gate's
  split : {P : Type 0} (i : ℕ)
      → (elem (outs_in t) i ≡ true → P) → (elem (firsts_in t) i ≡ true → P) → (elem (seconds_in t) i ≡ true → P)
      → elem (uses_in t) i ≡ true → P
  split i o f s e =
      or_cases (elem (outs_in t) i) (elem (firsts_in t ++ seconds_in t) i) o
      (λ q. or_cases (elem (firsts_in t) i) (elem (seconds_in t) i) f s (sym (elem_append (firsts_in t) (seconds_in t) i) ∙ q))
      (sym (elem_append (outs_in t) (firsts_in t ++ seconds_in t) i) ∙ e)

  pub used_inside : (i : ℕ) → elem (uses_in t) i ≡ true → i < length t
  used_inside i =
      split i (inside (outs_in t) (outs_within t)) (inside (firsts_in t) (firsts_within t)) (inside (seconds_in t) (seconds_within t))
    where
      inside : (l : List ℕ) → Inside t l → elem l i ≡ true → i < length t
      inside l w e = let p = elem_place l i e in rw (← p.2) (w p.0 p.1)

  pub used_cases : (P : List ℕ → Type 0)
      → ((k : ℕ) → Line says_output t k → P (word_on t k 1))
      → ((k : ℕ) → Line says_gate t k → (s : ℕ) → P (source_on t k s))
      → (i : ℕ) → elem (uses_in t) i ≡ true → P (word_at t i)
  unfolding outs_of firsts_of seconds_of
  used_cases P o g i =
      split i
      (λ e. let w = entry says_output t output_at i e in rw (← w.is) (o w.place w.line))
      (λ e. let w = entry says_gate t (λ k. source_at k 1) i e in rw (← w.is) (g w.place w.line 1))
      (λ e. let w = entry says_gate t (λ k. source_at k 2) i e in rw (← w.is) (g w.place w.line 2))

-- Words of a text, byte by byte, and when two are the same.
-- Assumes nothing.
use mathlib.Core.Path.{◌≡◌, refl, sym, ap, ◌∙◌}
use mathlib.Core.Bool.{Bool, true, false, not, ◌&&◌, false≢true}
use mathlib.Core.List.{List, [], ◌∷◌}
use Prim.Native.Nat.{ℕ, suc, ◌+◌, ◌<◌}
use native.Mathlib.Decide.{dec_lt}
use native.Mathlib.Numerals.{add-one}
use native.Mathlib.Omega.{arith}
use lib.Dec.{eqb}
use lib.ListN.{length, get_or, drop_of_length-le, get_or-eq_default}
use lib.Seq.{drop-cons}
use borrow.Author.Tests.{eq-eqb, ne_eqb, eqb-true}
use Rattle.ground.specs.Choose.{choose}
use Rattle.words.specs.Words.{within, word_byte, word, word_at, same}

zero-no : word_byte 0 ≡ false
unfolding word_byte within
zero-no = refl

-- a byte of a word stands in the text
pub inside : (t : List ℕ) (x : ℕ) → word_byte (get_or t x 0) ≡ true → x < length t
inside t x e = go (dec_lt x (length t))
  where
    go : Dec (x < length t) → x < length t
    go (yes l) = l
    go (no n) = absurd (false≢true (sym zero-no ∙ ap word_byte (sym (get_or-eq_default t 0 (omega arith))) ∙ e))

pub word_yes : (t : List ℕ) (x : ℕ) → word_byte (get_or t x 0) ≡ true → word_at t x ≡ get_or t x 0 ∷ word_at t (x + 1)
unfolding word
word_yes t x e = ap word (drop-cons t x 0 (inside t x e)) ∙ ap (λ (b : Bool). choose b (get_or t x 0 ∷ word_at t (suc x)) []) e ∙ rw (add-one x)

pub word-no : (t : List ℕ) (x : ℕ) → word_byte (get_or t x 0) ≡ false → word_at t x ≡ []
unfolding word
word-no t x e = go (dec_lt x (length t))
  where
    go : Dec (x < length t) → word_at t x ≡ []
    go (yes l) = ap word (drop-cons t x 0 l) ∙ ap (λ (b : Bool). choose b (get_or t x 0 ∷ word_at t (suc x)) []) e
    go (no n) = ap word (drop_of_length-le t {i = x} (omega arith))

-- a test of a byte that is read tests the text's
pub read_byte : {b w : ℕ} {r s : Bool} → w ≡ b → r ≡ word_byte w → r ≡ s → word_byte b ≡ s
read_byte e f g = ap word_byte (sym e) ∙ sym f ∙ g

pub read_inside : (t : List ℕ) (x : ℕ) {w : ℕ} {r : Bool} → w ≡ get_or t x 0 → r ≡ word_byte w → r ≡ true → x < length t
read_inside t x e f g = inside t x (read_byte e f g)

-- ---- two words

module _ (t : List ℕ) (x y : ℕ) where
  pub same_more : word_byte (get_or t x 0) ≡ true → get_or t y 0 ≡ get_or t x 0 → same (word_at t x) (word_at t y) ≡ same (word_at t (x + 1)) (word_at t (y + 1))
  unfolding same
  same_more w e =
      ap (λ (l : List ℕ). same l (word_at t y)) (word_yes t x w)
      ∙ ap (same (get_or t x 0 ∷ word_at t (x + 1))) (word_yes t y (ap word_byte e ∙ w))
      ∙ ap (λ (b : Bool). b && same (word_at t (x + 1)) (word_at t (y + 1))) (eq-eqb (get_or t x 0) (get_or t y 0) (sym e))

  pub same_not : word_byte (get_or t x 0) ≡ true → (get_or t y 0 ≡ get_or t x 0 → ⊥) → same (word_at t x) (word_at t y) ≡ false
  unfolding same
  same_not w n = ap (λ (l : List ℕ). same l (word_at t y)) (word_yes t x w) ∙ go (word_byte (get_or t y 0)) refl
    where
      go : (b : Bool) → word_byte (get_or t y 0) ≡ b → same (get_or t x 0 ∷ word_at t (x + 1)) (word_at t y) ≡ false
      go true q =
          ap (same (get_or t x 0 ∷ word_at t (x + 1))) (word_yes t y q)
          ∙ ap (λ (b : Bool). b && same (word_at t (x + 1)) (word_at t (y + 1))) (ne_eqb (get_or t x 0) (get_or t y 0) (λ e. n (sym e)))
      go false q = ap (same (get_or t x 0 ∷ word_at t (x + 1))) (word-no t y q)

  pub same_end : word_byte (get_or t x 0) ≡ false → same (word_at t x) (word_at t y) ≡ not (word_byte (get_or t y 0))
  unfolding same
  same_end w = ap (λ (l : List ℕ). same l (word_at t y)) (word-no t x w) ∙ go (word_byte (get_or t y 0)) refl
    where
      go : (b : Bool) → word_byte (get_or t y 0) ≡ b → same [] (word_at t y) ≡ not b
      go true q = ap (same []) (word_yes t y q)
      go false q = ap (same []) (word-no t y q)

-- ---- equal words

pub same_eq : (l m : List ℕ) → same l m ≡ true → l ≡ m
unfolding same
same_eq [] [] e = refl
same_eq [] (y ∷ m) e = absurd (false≢true e)
same_eq (x ∷ l) [] e = absurd (false≢true e)
same_eq (x ∷ l) (y ∷ m) e = go (eqb x y) refl e (λ f. same_eq l m f)
  where
    go : (b : Bool) → eqb x y ≡ b → (b && same l m) ≡ true → (same l m ≡ true → l ≡ m) → x ∷ l ≡ y ∷ m
    go true q f ih = let i = ih f in let j = eqb-true x y q in cc
    go false q f ih = absurd (false≢true f)

pub same_refl : (l : List ℕ) → same l l ≡ true
unfolding same
same_refl [] = refl
same_refl (x ∷ l) = rw (eq-eqb x x refl, same_refl l)

-- A word of the text and a keyword, byte by byte.
-- Assumes nothing.
use mathlib.Core.Path.{◌≡◌, refl, ap, ◌∙◌}
use mathlib.Core.Bool.{Bool, true, false, not, ◌&&◌}
use mathlib.Core.List.{List, [], ◌∷◌}
use Prim.Native.Nat.{ℕ, zero, suc, ◌+◌, ◌≤◌, ◌<◌}
use native.Mathlib.Nat.{le_of_suc-le-suc, not-suc-le-zero}
use native.Mathlib.Numerals.{add-one}
use native.Mathlib.Omega.{arith}
use lib.ListN.{length, get_or, drop, drop_of_length-le}
use lib.Seq.{drop-cons}
use borrow.Author.Tests.{eq-eqb, ne_eqb}
use Rattle.ground.proofs.Tests.{both}
use Rattle.words.specs.Words.{word_byte, word_at, same}
use Rattle.words.proofs.Same.{word_yes, word-no}
use Rattle.words.specs.Owed.{all_word}

all_at : (l : List ℕ) (k : ℕ) → all_word l ≡ true → k < length l → word_byte (get_or l k 0) ≡ true
unfolding all_word
all_at [] k e h = absurd (not-suc-le-zero h)
all_at (b ∷ l) zero e h = (both (word_byte b) (all_word l) e).0
all_at (b ∷ l) (suc k) e h = all_at l k (both (word_byte b) (all_word l) e).1 (le_of_suc-le-suc h)

module _ (t : List ℕ) (at : ℕ) (name : List ℕ) (word : all_word name ≡ true) (k : ℕ) where
  module _ (l : k < length name) where
    -- the keyword's rest
    rest : drop k name ≡ get_or name k 0 ∷ drop (k + 1) name
    rest = drop-cons name k 0 l ∙ rw (add-one k)

    pub name-more : get_or t (at + k) 0 ≡ get_or name k 0 → same (word_at t (at + k)) (drop k name) ≡ same (word_at t (at + (k + 1))) (drop (k + 1) name)
    unfolding same
    name-more e =
        let z : at + k + 1 ≡ at + (k + 1) = omega arith in
        ap (same (word_at t (at + k))) rest
        ∙ ap (λ (w : List ℕ). same w (get_or name k 0 ∷ drop (k + 1) name)) (word_yes t (at + k) (ap word_byte e ∙ all_at name k word l))
        ∙ ap (λ (b : Bool). b && same (word_at t (at + k + 1)) (drop (k + 1) name)) (eq-eqb (get_or t (at + k) 0) (get_or name k 0) e)
        ∙ ap (λ (i : ℕ). same (word_at t i) (drop (k + 1) name)) z

    pub name-not : (get_or t (at + k) 0 ≡ get_or name k 0 → ⊥) → same (word_at t (at + k)) (drop k name) ≡ false
    unfolding same
    name-not n = ap (same (word_at t (at + k))) rest ∙ go (word_byte (get_or t (at + k) 0)) refl
      where
        go : (b : Bool) → word_byte (get_or t (at + k) 0) ≡ b → same (word_at t (at + k)) (get_or name k 0 ∷ drop (k + 1) name) ≡ false
        go true q =
            ap (λ (w : List ℕ). same w (get_or name k 0 ∷ drop (k + 1) name)) (word_yes t (at + k) q)
            ∙ ap (λ (b : Bool). b && same (word_at t (at + k + 1)) (drop (k + 1) name)) (ne_eqb (get_or t (at + k) 0) (get_or name k 0) n)
        go false q = ap (λ (w : List ℕ). same w (get_or name k 0 ∷ drop (k + 1) name)) (word-no t (at + k) q)

  pub name_end : length name ≤ k → same (word_at t (at + k)) (drop k name) ≡ not (word_byte (get_or t (at + k) 0))
  unfolding same
  name_end l = ap (same (word_at t (at + k))) (drop_of_length-le name {i = k} l) ∙ go (word_byte (get_or t (at + k) 0)) refl
    where
      go : (b : Bool) → word_byte (get_or t (at + k) 0) ≡ b → same (word_at t (at + k)) [] ≡ not b
      go true q = ap (λ (w : List ℕ). same w []) (word_yes t (at + k) q)
      go false q = ap (λ (w : List ℕ). same w []) (word-no t (at + k) q)

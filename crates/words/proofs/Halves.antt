-- Between two words stands another byte: so a text has no more words than half of its bytes, rounded up.
-- Assumes nothing.
use mathlib.Core.Path.{◌≡◌, refl, sym, ap, ◌∙◌}
use mathlib.Core.Bool.{Bool, true, false, ◌&&◌, false≢true}
use mathlib.Core.List.{List}
use Prim.Native.Nat.{ℕ, zero, suc, ◌+◌, ◌*◌, ◌≤◌}
use native.Mathlib.Omega.{arith}
use lib.Dec.{eqb}
use lib.ListN.{get_or}
use borrow.Author.Tests.{ne_eqb, eqb-true}
use Rattle.ground.specs.Choose.{one}
use Rattle.ground.specs.Below.{count_below}
use Rattle.ground.proofs.Tests.{one_most}
use Rattle.words.specs.Words.{within, word_byte, mode, mode_to, words_to}

no_word : (x : ℕ) → word_byte x ≡ false → (b : ℕ) → word_byte b ≡ true → eqb b x ≡ false
no_word x n b w = ne_eqb b x (λ e. false≢true (sym n ∙ ap word_byte (sym e) ∙ w))

feed_no : word_byte 10 ≡ false
unfolding word_byte within
feed_no = refl

hash_no : word_byte 35 ≡ false
unfolding word_byte within
hash_no = refl

-- a word that begins leads into a word
into : (m b : ℕ) → m ≡ 0 → word_byte b ≡ true → mode m b ≡ 1
unfolding mode
into m b e w = rw (e, no_word 10 feed_no b w, no_word 35 hash_no b w, w)

-- twice the words so far; one byte more where the last belongs to a word
abbrev Halved : List ℕ → ℕ → Type 0
Halved t i = 2 * words_to t i ≤ i + one (eqb (mode_to t i) 1)

halved : (t : List ℕ) (i : ℕ) → Halved t i
unfolding count_below mode_to
halved t zero = omega arith
halved t (suc i) = go (eqb (mode_to t i) 0) refl (word_byte (get_or t i 0)) refl (halved t i)
  where
    go : (z : Bool) → eqb (mode_to t i) 0 ≡ z → (w : Bool) → word_byte (get_or t i 0) ≡ w → Halved t i
        → 2 * (words_to t i + one (z && w)) ≤ suc i + one (eqb (mode (mode_to t i) (get_or t i 0)) 1)
    go true z true w h =
        let m = eqb-true (mode_to t i) 0 z in
        rw (into (mode_to t i) (get_or t i 0) m w) (omega (arith, rw m at h))
    go true z false w h = omega (arith, h, one_most (eqb (mode_to t i) 1))
    go false z w q h = omega (arith, h, one_most (eqb (mode_to t i) 1))

pub half : (t : List ℕ) (i : ℕ) → 2 * words_to t i ≤ i + 1
half t i = omega (arith, halved t i, one_most (eqb (mode_to t i) 1))

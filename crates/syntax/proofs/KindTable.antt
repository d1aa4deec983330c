-- The table of the kinds is right by the gates' rule; and what each of its words says.
-- Assumes nothing.
use mathlib.Core.Path.{◌≡◌, refl}
use mathlib.Core.Logic.{⊎_elim}
use mathlib.Core.Bool.{Bool, true, false, ◌&&◌}
use mathlib.Core.List.{List, [], ◌∷◌}
use Prim.Native.Nat.{ℕ, ◌≤◌, ◌<◌}
use native.Mathlib.Omega.{arith}
use lib.Dec.{eqb, leb, ltb}
use borrow.Author.Tests.{eqb-true, leb-true, ltb-true}
use Rattle.ground.specs.Choose.{choose}
use Rattle.ground.specs.Lists.{grow}
use Rattle.ground.proofs.Tests.{both}
use Rattle.gates.specs.Gate.{selector, pins_of}
use Rattle.words.specs.Words.{same}
use Rattle.syntax.specs.Kinds.{Kind, kinds, words_with, kind_words, kind_in, kind_of, EachKind, Among}

-- the number of each row is below the selector's
abbrev numbers_all_below : List Kind → Bool
numbers_all_below [] = true
numbers_all_below (k ∷ ks) = ltb k.number selector && numbers_all_below ks

below_selector : (ks : List Kind) → numbers_all_below ks ≡ true → (w : List ℕ) → kind_in ks w < selector
below_selector [] t w = omega arith
below_selector (k ∷ ks) t w = let u = both (ltb k.number selector) (numbers_all_below ks) t in go (same w k.word) (ltb-true k.number selector u.0) (below_selector ks u.1 w)
  where
    go : (b : Bool) → k.number < selector → kind_in ks w < selector → choose b k.number (kind_in ks w) < selector
    go true x y = x
    go false x y = y

-- so no word names it
pub no_selector : (w : List ℕ) → kind_of w < selector
unfolding kinds kind_of
no_selector w = below_selector kinds refl w

pub each_kind : EachKind
unfolding kinds kind_of same grow pins_of
each_kind = record { numbers = refl; sources = refl; words = refl; unnamed = λ w e. omega (arith, no_selector w) }

-- ---- a word of a kind with n sources

pub record Named (n : ℕ) (w : List ℕ) : Type 0 where
  pub some : 1 ≤ kind_of w
  pub pins : pins_of (kind_of w) ≡ n

-- a row's word names a kind with as many pins
abbrev right : Kind → Bool
right k = leb 1 (kind_of k.word) && eqb (pins_of (kind_of k.word)) k.pins

abbrev all_right : List Kind → Bool
all_right [] = true
all_right (k ∷ ks) = right k && all_right ks

row_named : (k : Kind) → right k ≡ true → {n : ℕ} → k.pins ≡ n → {w : List ℕ} → w ≡ k.word → Named n w
row_named k t e q =
    let u = both (leb 1 (kind_of k.word)) _ t in
    rw (q, ← e)
    (record { some = leb-true 1 (kind_of k.word) u.0; pins = eqb-true (pins_of (kind_of k.word)) k.pins u.1 })

among_named : (ks : List Kind) → all_right ks ≡ true → (n : ℕ) (w : List ℕ) → Among (words_with n ks) w → Named n w
among_named [] t n w a = absurd a
among_named (k ∷ ks) t n w a = let u = both (right k) (all_right ks) t in go (eqb k.pins n) refl u.0 (among_named ks u.1 n w) a
  where
    go : (b : Bool) → eqb k.pins n ≡ b → right k ≡ true → (Among (words_with n ks) w → Named n w)
        → Among (choose b (k.word ∷ words_with n ks) (words_with n ks)) w → Named n w
    go true q r ih a = ⊎_elim (row_named k r (eqb-true k.pins n q)) ih a
    go false q r ih a = ih a

pub kind_named : (n : ℕ) (w : List ℕ) → Among (kind_words n) w → Named n w
unfolding kind_words kinds kind_of same pins_of
kind_named n w a = among_named kinds refl n w a

-- The pieces of a line, one behind the other.
-- Assumes nothing.
use mathlib.Core.Path.{◌≡◌, sym, ◌∙◌}
use mathlib.Core.List.{List, [], ◌∷◌, map}
use Prim.Native.Nat.{ℕ, ◌+◌, ◌≤◌}
use native.Mathlib.Omega.{arith}
use lib.ListN.{length, get_or, length-append, length-map, get_or-map}
use Rattle.ground.specs.Put.{Put}
use Rattle.ground.proofs.Put.{put_then}
use Rattle.letters.specs.Text.{letter_of, mark_of, line_text, refused_word, refused_text}
use Rattle.decimals.specs.Digits.{decimal}
use Rattle.decimals.proofs.Digits.{digits_short}

pub letter_at : (row : List ℕ) (i : ℕ) {x : ℕ} → x ≡ letter_of (get_or row i 0) → x ≡ get_or (map letter_of row) i (letter_of 0)
letter_at row i e = e ∙ sym (get_or-map letter_of row i 0)

pub line_put : (p mark : ℕ) (row : List ℕ) {w₀ w₁ w₂ w₃ w₄ : List ℕ} {at n₁ n₂ n₃ n₄ x : ℕ}
    → x ≡ mark_of mark
    → Put w₀ w₁ at (decimal p) n₁
    → Put w₁ w₂ n₁ (32 ∷ x ∷ 32 ∷ []) n₂
    → Put w₂ w₃ n₂ (map letter_of row) n₃
    → Put w₃ w₄ n₃ (10 ∷ []) n₄
    → Put w₀ w₄ at (line_text p mark row) n₄
line_put p mark row e a b c d = put_then a (put_then (rw e at b) (put_then c d))

pub line_short : (p mark : ℕ) (row : List ℕ) → length (line_text p mark row) ≤ length row + 24
line_short p mark row = simp (length-append, length-map) (omega (arith, digits_short 20 p))

pub refused_put : (number place : ℕ) {w₀ w₁ w₂ w₃ w₄ w₅ : List ℕ} {n₁ n₂ n₃ n₄ n₅ : ℕ}
    → Put w₀ w₁ 0 refused_word n₁
    → Put w₁ w₂ n₁ (decimal number) n₂
    → Put w₂ w₃ n₂ (32 ∷ []) n₃
    → Put w₃ w₄ n₃ (decimal place) n₄
    → Put w₄ w₅ n₄ (10 ∷ []) n₅
    → Put w₀ w₅ 0 (refused_text number place) n₅
refused_put number place a b c d e = put_then a (put_then b (put_then c (put_then d e)))

pub refused_short : (number place : ℕ) → length (refused_text number place) ≤ 50
refused_short number place = simp length-append (omega (arith, digits_short 20 number, digits_short 20 place))

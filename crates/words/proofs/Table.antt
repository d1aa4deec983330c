-- What the table of the bytes says of each byte.
-- Assumes nothing.
use mathlib.Core.Path.{◌≡◌, refl, ap, ◌∙◌}
use mathlib.Core.Bool.{Bool, true, false}
use mathlib.Core.List.{List}
use Prim.Native.Nat.{ℕ, ◌<◌}
use lib.Dec.{eqb}
use lib.ListN.{get_or}
use Rattle.ground.specs.Choose.{choose}
use Rattle.ground.proofs.Grow.{table_at}
use Rattle.words.specs.Words.{word_byte}
use Rattle.words.specs.Owed.{WordTable}

letter : (x : Bool) → eqb (choose x 119 46) 119 ≡ x
letter true = refl
letter false = refl

pub byte_at : (t : List ℕ) → WordTable t → (b : ℕ) → b < 256 → eqb (get_or t b 0) 119 ≡ word_byte b
unfolding WordTable
byte_at t e b h =
    ap (λ (l : List ℕ). eqb (get_or l b 0) 119) e
    ∙ ap (λ (y : ℕ). eqb y 119) (table_at (λ k. choose (word_byte k) 119 46) 256 0 b h)
    ∙ letter (word_byte b)

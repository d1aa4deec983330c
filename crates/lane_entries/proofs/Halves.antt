-- Where the words of a line stand in the two halves of the work memory.
-- Assumes nothing.
use mathlib.Core.Path.{◌≡◌, ap, ap₂, ◌∙◌}
use mathlib.Core.List.{List}
use Prim.Native.Nat.{ℕ, ◌+◌, ◌*◌, ◌<◌}
use native.Mathlib.Omega.{arith}
use lib.ListN.{get_or, get_or-append}
use lib.Seq.{get_or-append-add}
use Rattle.lanes.specs.Lanes.{laid}
use Rattle.lane_lines.specs.Lines.{line_words}
use Rattle.lane_lines.specs.Owed.{lanes_at}
use Rattle.lane_lines.proofs.Words.{words_long, words_ones, words_zeros}
use Rattle.lane_entries.specs.Owed.{halves_of}

module _ (g f : ℕ → List ℕ) (n k : ℕ) (l : k < n) where
  pub good_at_lem : lanes_at (halves_of g f n) k ≡ laid (λ i. get_or (g i) k 0)
  good_at_lem =
      ap₂ (λ (x y : ℕ). record { ones = x; zeros = y })
      (front (2 * k) (omega arith) ∙ words_ones g n k l)
      (front (2 * k + 1) (omega arith) ∙ words_zeros g n k l)
    where
      front : (x : ℕ) → x < 2 * n → get_or (halves_of g f n) x 0 ≡ get_or (line_words g n) x 0
      front x h = get_or-append (line_words g n) (line_words f n) 0 x (rw (words_long g n) h)

  pub faulty_at_lem : lanes_at (halves_of g f n) (n + k) ≡ laid (λ i. get_or (f i) k 0)
  faulty_at_lem =
      ap₂ (λ (x y : ℕ). record { ones = x; zeros = y })
      (behind (2 * k) (omega arith) ∙ words_ones f n k l)
      (behind (2 * k + 1) (omega arith) ∙ words_zeros f n k l)
    where
      behind : (x : ℕ) {y : ℕ} → y ≡ 2 * n + x → get_or (halves_of g f n) y 0 ≡ get_or (line_words f n) x 0
      behind x e =
          ap (λ (z : ℕ). get_or (halves_of g f n) z 0) (omega (arith, words_long g n))
          ∙ get_or-append-add (line_words g n) (line_words f n) x 0

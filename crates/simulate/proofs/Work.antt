-- The work memory: where the good values stand in it, where the others, and how long it is.
-- Assumes nothing.
use mathlib.Core.Path.{◌≡◌, ◌∙◌}
use mathlib.Core.List.{List, ◌++◌}
use Prim.Native.Nat.{ℕ, ◌+◌}
use lib.ListN.{length, take, drop, length-append}
use lib.Seq.{take_at, drop_at}
use Rattle.ground.proofs.Grow.{grow-length}
use Rattle.simulate.specs.Simulate.{Forcing, unforced, line_value, values_to}
use Rattle.simulate.specs.Work.{good_of, both_under}

module _ (c p : List ℕ) (n : ℕ) where
  module _ (x : List ℕ) where
    pub good_long : length (good_of c p n ++ x) ≡ n + length x
    good_long = simp (length-append, grow-length (line_value unforced c p) n)

    pub good_front : take n (good_of c p n ++ x) ≡ good_of c p n
    good_front = take_at (good_of c p n) x n (grow-length (line_value unforced c p) n)

    pub behind-good : drop n (good_of c p n ++ x) ≡ x
    behind-good = drop_at (good_of c p n) x n (grow-length (line_value unforced c p) n)

  pub both-length : (f : Forcing) → length (both_under f c p n) ≡ n + n
  both-length f = good_long (values_to f c p n) ∙ rw (grow-length (line_value f c p) n)

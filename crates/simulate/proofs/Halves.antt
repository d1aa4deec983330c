-- The two halves of the work memory: the second gets what the first has, and is lent to get what a forcing makes of it.
-- Assumes nothing.
use mathlib.Core.Path.{◌≡◌, sym, ap, ◌∙◌}
use mathlib.Core.List.{List, ◌++◌, append-nil}
use Prim.Native.Nat.{ℕ, ◌+◌, ◌-◌}
use native.Mathlib.Omega.{arith}
use lib.ListN.{length, take, drop, length-take, length-drop, length-append, drop_of_length-le}
use lib.Seq.{take_at, drop_at, take_all, length-take-le}
use Rattle.std.specs.List.{copy_within}
use Rattle.simulate.specs.Simulate.{Forcing, values_to}
use Rattle.simulate.specs.Work.{good_of}
use Rattle.simulate.specs.Owed.{Keeps, ThreeValued, ForcedDone, ForcedValuesDone}

-- the second half gets what the first has
pub copied_half : {A : Type 0} (n : ℕ) (w : List A) → length w ≡ n + n → copy_within w 0 n n ≡ take n w ++ take n w
copied_half n w two = let all : n - 0 ≡ n = omega arith in rw (all, drop_of_length-le w {i = n + n} (omega arith), append-nil)

-- ---- the second half, lent

-- what is lent of w, and what the whole holds when u has come back
abbrev pub lent_half : ℕ → List ℕ → List ℕ
lent_half n w = take (length w - n) (drop n w)

abbrev pub filled : ℕ → List ℕ → List ℕ → List ℕ
filled n w u = take n w ++ (u ++ drop (length w - n) (drop n w))

pub lent_long : (n : ℕ) (w : List ℕ) → length w ≡ n + n → length (lent_half n w) ≡ n
lent_long n w e = simp (length-take, length-drop) (omega arith)

module _ (n : ℕ) (w w' u : List ℕ) (two : length w ≡ n + n) (copied : w' ≡ take n w ++ take n w) where
  half_long : length (take n w) ≡ n
  half_long = length-take-le n w (omega arith)

  pub copied_long : length w' ≡ n + n
  copied_long = ap length copied ∙ simp (length-append, half_long)

  pub lent_is : lent_half n w' ≡ take n w
  lent_is =
      take_all (length w' - n) (drop n w') (simp length-drop (omega (arith, copied_long)))
      ∙ ap (drop n) copied
      ∙ drop_at (take n w) (take n w) n half_long

  pub filled_is : filled n w' u ≡ take n w ++ u
  filled_is =
      rw (drop_of_length-le (drop n w') {i = length w' - n} (simp length-drop (omega (arith, copied_long))), append-nil, copied, take_at (take n w) (take n w) n half_long)

  -- what a forcing makes of the good values
  pub adds_forced : (f : Forcing) (c : List ℕ) → Keeps 3 f → ForcedDone ThreeValued f c (lent_half n w') u → ForcedValuesDone f c n w (filled n w' u)
  adds_forced f c keeps makes p small good =
      let long : length (lent_half n w') ≡ n = lent_long n w' copied_long in
      let u-is : u ≡ values_to f c p n = makes p (record { keeps = keeps; pattern = small }) (lent_is ∙ good ∙ ap (good_of c p) (sym long)) ∙ ap (values_to f c p) long in
      filled_is ∙ rw (good, u-is)

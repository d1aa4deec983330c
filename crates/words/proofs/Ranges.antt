-- A letter, a digit or _, as the library tests it.
-- Assumes nothing.
use mathlib.Core.Path.{◌≡◌}
use mathlib.Core.Bool.{◌||◌, or_assoc}
use Prim.Native.Nat.{ℕ}
use lib.Dec.{eqb}
use Rattle.std.specs.Char.{is_ascii_alphanumeric}
use Rattle.words.specs.Words.{within, word_byte}

pub by_ranges : (b : ℕ) → word_byte b ≡ (is_ascii_alphanumeric b || eqb b 95)
unfolding word_byte within
by_ranges b = simp or_assoc

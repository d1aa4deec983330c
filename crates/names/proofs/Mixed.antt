-- The hash of a word, byte by byte.
-- Assumes nothing.
use mathlib.Core.Path.{◌≡◌, ap}
use mathlib.Core.Bool.{true, false}
use mathlib.Core.List.{List}
use Prim.Native.Nat.{ℕ, ◌+◌, ◌*◌, ◌%◌}
use lib.ListN.{get_or}
use Rattle.words.specs.Words.{word_byte, word_at}
use Rattle.words.proofs.Same.{word_yes, word-no}
use Rattle.names.specs.Owed.{hash_from}

-- the hash of definition d
abbrev pub hash_of : List ℕ → List ℕ → ℕ → ℕ
hash_of t defs d = hash_from 0 (word_at t (get_or defs d 0))

module _ (t : List ℕ) (x h : ℕ) where
  pub hash_more : word_byte (get_or t x 0) ≡ true → hash_from h (word_at t x) ≡ hash_from ((h * 131 + get_or t x 0) % 8192) (word_at t (x + 1))
  unfolding hash_from
  hash_more w = ap (hash_from h) (word_yes t x w)

  pub hash_end : word_byte (get_or t x 0) ≡ false → hash_from h (word_at t x) ≡ h
  unfolding hash_from
  hash_end w = ap (hash_from h) (word-no t x w)

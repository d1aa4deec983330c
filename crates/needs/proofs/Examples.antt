-- "Not told apart" is no equivalence, by the rows FUP and FFF.
-- Assumes nothing.
use mathlib.Core.Path.{refl, sym}
use mathlib.Core.Logic.{Equivalence}
use mathlib.Core.Bool.{true≢false}
use mathlib.Core.List.{[], ◌∷◌}
use Prim.Native.Nat.{ℕ}
use Rattle.tables.specs.Entries.{Entries, entries_of}
use Rattle.needs.specs.Needs.{whole, tells}
use Rattle.needs.specs.Words.{Apart}
use Rattle.needs.proofs.Words.{apart-is, is-apart}

-- rows FUP and FFF
abbrev pub fup : Entries
fup = entries_of 3 (1 ∷ 2 ∷ 0 ∷ 1 ∷ 1 ∷ 1 ∷ [])

-- no pattern of the table tells the two faults apart
abbrev pub NotApart : ℕ → ℕ → Type 0
NotApart f g = Apart fup 2 whole f g → ⊥

first_third : Apart fup 2 whole 0 2
unfolding tells
first_third = apart-is fup 2 whole 0 2 refl

first_second : NotApart 0 1
unfolding tells
first_second w = true≢false (sym (is-apart fup 2 whole 0 1 w))

second_third : NotApart 1 2
unfolding tells
second_third w = true≢false (sym (is-apart fup 2 whole 1 2 w))

-- the first and the third are told apart, though neither is told from the second
pub no_equivalence : Equivalence NotApart → ⊥
no_equivalence e = e.trans 0 1 2 first_second second_third first_third

-- An entry by what some outputs say: it is fail where one differs, and unknown where none differs and one is not as expected.
-- Assumes nothing.
use mathlib.Core.Path.{◌≡◌, refl}
use mathlib.Core.Bool.{Bool, true, false, not, ◌&&◌, ◌||◌, xor}
use mathlib.Core.List.{List}
use Prim.Native.Nat.{ℕ, zero, suc}
use lib.Dec.{eqb}
use lib.ListN.{get_or}
use Rattle.ground.specs.Choose.{choose}
use Rattle.ground.specs.Below.{all_below, any_below}
use Rattle.circuit.specs.Record.{is_output}
use Rattle.tables.specs.Entries.{pass, fail, unknown}
use Rattle.entry.specs.Entry.{differ, as_expected, some_output, every_output, entry_by, entry_of}
use Rattle.lane_entries.specs.Owed.{missed}

-- at some place is: not at every
some-not : (n : ℕ) (o t : ℕ → Bool) → any_below n (λ k. o k && not (t k)) ≡ not (all_below n (λ k. not (o k) || t k))
some-not zero o t = refl
some-not (suc n) o t = rw (some-not n o t) (go (all_below n (λ k. not (o k) || t k)) (o n) (t n))
  where
    go : (a o t : Bool) → (not a || (o && not t)) ≡ not (a && (not o || t))
    go true true true = refl
    go true true false = refl
    go true false t = refl
    go false o t = refl

module _ (c g f : List ℕ) (n : ℕ) where
  pub fails_where : some_output differ c g f n ≡ eqb (entry_of c g f n) fail
  unfolding entry_by
  fails_where = go (some_output differ c g f n) (every_output as_expected c g f n)
    where
      go : (d p : Bool) → d ≡ eqb (choose d fail (choose p pass unknown)) fail
      go true p = refl
      go false true = refl
      go false false = refl

  pub unknown_where : xor (some_output missed c g f n) (some_output missed c g f n && some_output differ c g f n) ≡ eqb (entry_of c g f n) unknown
  unfolding entry_by xor
  unknown_where =
      rw (some-not n (is_output c) (λ k. as_expected (get_or g k 0) (get_or f k 0))) (go (some_output differ c g f n) (every_output as_expected c g f n))
    where
      go : (d p : Bool) → xor (not p) (not p && d) ≡ eqb (choose d fail (choose p pass unknown)) unknown
      go true true = refl
      go true false = refl
      go false true = refl
      go false false = refl

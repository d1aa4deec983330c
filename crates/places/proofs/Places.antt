-- The loop of `put_places_in`: which definition each line has, one line more, and the end.
-- Assumes nothing.
use mathlib.Core.Path.{◌≡◌, sym, ap, ◌∙◌}
use mathlib.Core.Logic.{⊎_elim}
use mathlib.Core.List.{List}
use Prim.Native.Nat.{ℕ, ◌+◌, ◌-◌, ◌≤◌, ◌<◌}
use native.Mathlib.Nat.{zero-add}
use native.Mathlib.Omega.{arith}
use lib.ListN.{length, get_or, set}
use borrow.Author.Tests.{lt-ltb, le-ltb}
use Rattle.ground.specs.Put.{laid_on}
use Rattle.ground.proofs.Tests.{either}
use Rattle.ground.proofs.Elem.{index_of}
use Rattle.ground.proofs.Grow.{table-length, table_at}
use Rattle.ground.proofs.Put.{Partly, partly_more, partly_all, put_whole}
use Rattle.records.specs.Owed.{NumberLinesReady, NumberLinesDone}
use Rattle.places.specs.Owed.{number_by, definition_by, place_by, places_by, PutPlacesReady, PutPlacesInReady}

module _ {defs numbers order places₀ : List ℕ} (p : PutPlacesReady defs numbers order places₀) where
  abbrev inputs : ℕ
  inputs = length defs - length order

  lines : inputs + length order ≡ length defs
  lines = omega (arith, p.gates)

  -- what stands on a line is a number
  pub number_below : (k : ℕ) → k < length defs → number_by inputs order k < length defs
  unfolding number_by
  number_below k l = ⊎_elim input gate (either k inputs)
    where
      input : k < inputs → number_by inputs order k < length defs
      input h = rw (lt-ltb k inputs h) (omega (arith, lines))

      gate : inputs ≤ k → number_by inputs order k < length defs
      gate h = rw (le-ltb k inputs h) (p.gates_below (k - inputs) (omega (arith, lines)))

  -- which is defined
  pub def_below : (k : ℕ) → k < length defs → definition_by defs numbers order k < length defs
  def_below k l =
      let x = number_by inputs order k in
      omega (arith, (index_of numbers x (p.each x (number_below k l))).below, p.paired)

  -- by the memory
  pub def_is : (def : List ℕ) → NumberLinesDone numbers 0 def → (k : ℕ) → k < length defs
      → {x d : ℕ} → x ≡ number_by inputs order k → d ≡ get_or def x 0 → d ≡ definition_by defs numbers order k
  def_is def n k l e f = f ∙ ap (λ (i : ℕ). get_or def i 0) e ∙ n (number_by inputs order k) (p.each _ (number_below k l)) ∙ zero-add _

  -- ---- the loop

  abbrev pub PlacesTo : List ℕ → ℕ → Type 0
  PlacesTo places k = Partly (places_by defs numbers order) places₀ 0 places k

  places_long : length (places_by defs numbers order) ≡ length defs
  places_long = table-length (place_by defs numbers order) (length defs)

  pub places_more : {places : List ℕ} {k x : ℕ} → PlacesTo places k → k < length defs
      → x ≡ get_or defs (definition_by defs numbers order k) 0 → PlacesTo (set places k x) (k + 1)
  unfolding place_by
  places_more {places} {k} {x} s l e =
      rw (zero-add k) at (partly_more 0 s (rw places_long l) (e ∙ sym (table_at (place_by defs numbers order) (length defs) 0 k l)))

  pub places_all : {places : List ℕ} {k : ℕ} → PlacesTo places k → length defs ≤ k → places ≡ laid_on places₀ (places_by defs numbers order)
  places_all s l = put_whole (partly_all s (rw places_long l)) (rw places_long p.room)

-- each number is that of a place in the memory
pub number_room : {defs numbers order def places : List ℕ} → PutPlacesInReady defs numbers order def places → NumberLinesReady numbers 0 def
number_room p = record { few = omega (arith, p.fits.paired, p.fits.few); gates = λ i l. rw p.for_defs (p.fits.numbers_below i l) }

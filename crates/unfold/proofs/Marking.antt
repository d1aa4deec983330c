-- The loop of `mark_data`: where it starts, one data line more, and the end.
-- Assumes nothing.
use mathlib.Core.Path.{◌≡◌, refl, sym, ◌∙◌}
use mathlib.Core.Bool.{Bool, true, false, ◌||◌, or-true}
use mathlib.Core.List.{List}
use Prim.Native.Nat.{ℕ, ◌+◌, ◌≤◌, ◌<◌}
use native.Mathlib.Decide.{ℕ_discrete}
use native.Mathlib.Numerals.{add-one}
use native.Mathlib.Omega.{arith}
use lib.Dec.{eqb}
use lib.ListN.{length, get_or, set, length-set}
use lib.Seq.{get_or-set_same, get_or-set_other}
use borrow.Author.Tests.{eq-eqb, ne_eqb}
use Rattle.ground.specs.Choose.{one}
use Rattle.ground.specs.Below.{any_below}
use Rattle.states.specs.States.{state_count, data_line, is_data}
use Rattle.unfold.specs.Owed.{MarkDataReady, MarkDataDone}

-- the data lines of the first r records are marked
pub record MarkedTo (st marks₀ marks : List ℕ) (r : ℕ) : Type 0 where
  pub at_most : r ≤ state_count st
  pub long : length marks ≡ length marks₀
  pub marked : (m : ℕ) → m < length marks → get_or marks m 0 ≡ one (any_below r (λ q. eqb (data_line st q) m))

pub marked_none : {st marks : List ℕ} → MarkDataReady st marks → MarkedTo st marks marks 0
marked_none ready = record { at_most = omega arith; long = refl; marked = λ m l. ready.unset m }

or_no : (b : Bool) → (b || false) ≡ b
or_no true = refl
or_no false = refl

module _ {st marks₀ marks : List ℕ} {r : ℕ} (so : MarkedTo st marks₀ marks r) where
  pub marked_more : r < state_count st → MarkedTo st marks₀ (set marks (data_line st r) 1) (r + 1)
  marked_more l = record {
    at_most = omega arith;
    long = length-set marks (data_line st r) 1 ∙ so.long;
    marked = λ m h. rw (add-one r) (go m (rw length-set at h) (ℕ_discrete (data_line st r) m));
  }
    where
      go : (m : ℕ) → m < length marks → Dec (data_line st r ≡ m)
          → get_or (set marks (data_line st r) 1) m 0 ≡ one (any_below r (λ q. eqb (data_line st q) m) || eqb (data_line st r) m)
      go m h (yes q) = rw (eq-eqb (data_line st r) m q, or-true, q) (get_or-set_same marks m 1 0 h)
      go m h (no d) = rw (ne_eqb (data_line st r) m d, or_no) (get_or-set_other marks (data_line st r) m 1 0 (λ p. d (sym p)) ∙ so.marked m h)

  pub marked_all : state_count st ≤ r → MarkDataDone st marks
  unfolding is_data
  marked_all l m h = let e : r ≡ state_count st = omega (arith, so.at_most) in rw (← e) (so.marked m h)

-- The marks of what the pins of a line read.
-- Assumes nothing.
use mathlib.Core.Path.{◌≡◌, refl, sym, ap, ◌∙◌}
use mathlib.Core.Bool.{Bool, true, false, ◌||◌, or-true, or-false}
use mathlib.Core.List.{List}
use Prim.Native.Nat.{ℕ, suc, ◌+◌, ◌≤◌, ◌<◌}
use native.Mathlib.Decide.{ℕ_discrete}
use native.Mathlib.Numerals.{add-one}
use native.Mathlib.Omega.{arith}
use lib.Dec.{eqb}
use lib.ListN.{length, get_or, set, length-set}
use lib.Seq.{get_or-set_same, get_or-set_other}
use borrow.Author.Tests.{eq-eqb, ne_eqb}
use Rattle.ground.specs.Below.{any_below}
use Rattle.gates.specs.Gate.{pins_of}
use Rattle.circuit.specs.Record.{kind_at, pin_at}
use Rattle.heads.specs.Heads.{some_pin}
use Rattle.head_marks.specs.Owed.{mark_by, ReadsMore, MarkedBy, MarksMore, PinMarked, SourcesMarked}

pub stays_bound : {mark : ℕ} → mark ≡ 2 → ReadsMore mark 2
stays_bound z true r e = refl
stays_bound z false true e = absurd (omega arith)
stays_bound z false false e = absurd (omega arith)

pub becomes_read : {mark : ℕ} → (mark ≡ 2 → ⊥) → ReadsMore mark 1
becomes_read d true r e = absurd (d e)
becomes_read d false r e = refl

pub marked_as : {n : ℕ} {b r t : ℕ → Bool} {marks : List ℕ} → ((j : ℕ) → r j ≡ t j) → MarkedBy n b r marks → MarkedBy n b t marks
marked_as {b = b} same p = record { long = p.long; are = λ j l. p.are j l ∙ ap (mark_by (b j)) (same j) }

pub pin-marked : (c : List ℕ) (k s : ℕ) (marks : List ℕ) {i mark : ℕ} → i ≡ pin_at c k s → i < length marks → ReadsMore (get_or marks i 0) mark → PinMarked c k s marks (set marks i mark)
pin-marked c k s marks {i} {mark} is inside more b r p = record { long = length-set marks i mark; are = λ j l. go j l (ℕ_discrete i j) }
  where
    go : (j : ℕ) → j < length marks → Dec (i ≡ j) → get_or (set marks i mark) j 0 ≡ mark_by (b j) (r j || eqb (pin_at c k s) j)
    go j l (yes e) =
        rw (eq-eqb (pin_at c k s) j (sym is ∙ e), or-true, ← e) (get_or-set_same marks i mark 0 inside ∙ more (b i) (r i) (p.are i inside))
    go j l (no d) =
        rw (ne_eqb (pin_at c k s) j (λ e. d (is ∙ e)), or-false) (get_or-set_other marks i j mark 0 (λ e. d (sym e)) ∙ p.are j l)

-- of which s are marked
pub record Sources (c : List ℕ) (k has : ℕ) (marks₀ marks : List ℕ) (s : ℕ) : Type 0 where
  pub at_most : s ≤ has
  pub long : length marks ≡ length marks₀
  pub more : MarksMore (λ j. any_below s (λ i. eqb (pin_at c k (suc i)) j)) marks₀ marks

pub no_source : (c : List ℕ) (k has : ℕ) (marks : List ℕ) → Sources c k has marks marks 0
no_source c k has marks = record { at_most = omega arith; long = refl; more = λ b r p. marked_as (λ j. sym (or-false (r j))) p }

module _ {c : List ℕ} {k has : ℕ} {marks₀ marks : List ℕ} {s : ℕ} (so : Sources c k has marks₀ marks s) where
  pub next_source : {marks' : List ℕ} → s < has → length marks' ≡ length marks → PinMarked c k (s + 1) marks marks' → Sources c k has marks₀ marks' (s + 1)
  next_source {marks'} l long p = record {
    at_most = omega arith;
    long = long ∙ so.long;
    more = λ b r q. marked_as (joined r) ((rw (so.long, add-one s) at p) b _ (so.more b r q));
  }
    where
      either_way : (a b d : Bool) → ((a || b) || d) ≡ (a || (b || d))
      either_way true b d = refl
      either_way false b d = refl

      joined : (r : ℕ → Bool) (j : ℕ) → ((r j || any_below s (λ i. eqb (pin_at c k (suc i)) j)) || eqb (pin_at c k (suc s)) j) ≡ (r j || any_below (s + 1) (λ i. eqb (pin_at c k (suc i)) j))
      joined r j = rw (add-one s) (either_way (r j) _ _)

  pub all_sources : has ≤ s → has ≡ pins_of (kind_at c k) → SourcesMarked c k marks₀ marks
  unfolding some_pin
  all_sources l e =
      let q : s ≡ pins_of (kind_at c k) = omega (arith, so.at_most) in
      rw q at so.more

-- The lines have their turns in order: a bound one is marked, and what it reads.
-- Assumes nothing.
use mathlib.Core.Path.{◌≡◌, refl, sym, ap, ◌∙◌}
use mathlib.Core.Bool.{Bool, true, false, not, ◌&&◌, ◌||◌, or-false}
use mathlib.Core.List.{List}
use Prim.Native.Nat.{ℕ, suc, ◌+◌, ◌≤◌, ◌<◌}
use native.Mathlib.Decide.{ℕ_discrete}
use native.Mathlib.Nat.{le_refl}
use native.Mathlib.Numerals.{add-one}
use native.Mathlib.Omega.{arith}
use lib.Dec.{eqb, ltb}
use lib.ListN.{length, get_or, set, length-set, get_or-replicate}
use lib.Seq.{get_or-set_same, get_or-set_other}
use borrow.Author.Tests.{lt-ltb, le-ltb}
use Rattle.ground.specs.Choose.{choose, one}
use Rattle.ground.proofs.Tests.{either}
use Rattle.ground.proofs.Below.{any_same}
use mathlib.Core.Logic.{⊎_elim}
use Rattle.gates.specs.Gate.{pins_of}
use Rattle.circuit.specs.Record.{kind_at, pin_at}
use Rattle.reads.specs.Reads.{reads_of}
use Rattle.reads.specs.Owed.{ReadsCounted}
use Rattle.reads.proofs.Counted.{counted_branches}
use Rattle.heads.specs.Heads.{some_pin, bound, read_by_bound}
use Rattle.heads.specs.Marks.{line_mark, Marked}
use Rattle.heads.proofs.Pins.{pin_lower}
use Rattle.heads.proofs.Forest.{bound_law}
use Rattle.heads.proofs.Says.{head-is}
use Rattle.head_marks.specs.Owed.{binds, mark_by, MarkedBy, SourcesMarked, bound_yet, read_yet, MarkedTo, MarkLineReady, MarkLineDone, MarkReady}
use Rattle.head_marks.proofs.Pins.{marked_as}

-- 2 is for bound lines
is_two : (b r : Bool) → eqb (mark_by b r) 2 ≡ b
is_two true r = refl
is_two false true = refl
is_two false false = refl

-- whether a line had its turn, with one turn more
turn_other : (j k : ℕ) → (j ≡ k → ⊥) → ltb j k ≡ ltb j (suc k)
turn_other j k d = ⊎_elim (λ l. lt-ltb j k l ∙ sym (lt-ltb j (suc k) (omega arith))) (λ l. le-ltb j k l ∙ sym (le-ltb j (suc k) (omega arith))) (either j k)

module _ {c reads : List ℕ} {k n : ℕ} (p : MarkLineReady c reads k n) (marks : List ℕ) (so : MarkedTo c n k marks) where
  -- line k is bound exactly if the bytes say so
  turn : some_pin c k (binds reads marks) ≡ bound c n k
  unfolding some_pin binds
  turn =
      any_same (pins_of (kind_at c k)) _ _
      (λ i h.
      let low : pin_at c k (suc i) < k = pin_lower p.well k (suc i) p.line (omega arith) h in
      let in_range_lem : pin_at c k (suc i) < n = omega (arith, p.line) in
      rw (
        counted_branches c p.counted (pin_at c k (suc i)) in_range_lem,
        so.are (pin_at c k (suc i)) in_range_lem,
        is_two (bound_yet c n k (pin_at c k (suc i))) (read_yet c n k (pin_at c k (suc i))),
        lt-ltb (pin_at c k (suc i)) k low,
      ))
      ∙ sym (bound_law p.well k p.line)

  pub bound-marked : {b : Bool} {marks' : List ℕ}
      → n ≡ length marks
      → b ≡ some_pin c k (binds reads marks)
      → b ≡ true
      → SourcesMarked c k (set marks k 2) marks'
      → MarkedTo c n (suc k) marks'
  bound-marked {b} {marks'} size says t q =
      let e : bound c n k ≡ true = sym turn ∙ sym says ∙ t in
      let itself : MarkedBy n (bound_yet c n (suc k)) (read_yet c n k) (set marks k 2) =
      record { long = length-set marks k 2 ∙ so.long; are = λ j l. go e j l (ℕ_discrete j k) } in
      let sources : MarkedBy n (bound_yet c n (suc k)) (λ j. read_yet c n k j || some_pin c k (λ i. eqb i j)) marks' =
      (rw (length-set marks k 2, ← size) at q) (bound_yet c n (suc k)) (read_yet c n k) itself in
      marked_as (λ j. rw e) sources
    where
      go : bound c n k ≡ true → (j : ℕ) → j < n → Dec (j ≡ k) → get_or (set marks k 2) j 0 ≡ mark_by (bound_yet c n (suc k) j) (read_yet c n k j)
      go e j l (yes q) = rw (q, lt-ltb k (suc k) (le_refl _), e) (get_or-set_same marks k 2 0 (omega (arith, p.line)))
      go e j l (no d) = get_or-set_other marks k j 2 0 d ∙ so.are j l ∙ rw (turn_other j k d)

  pub free-left : {b : Bool} → b ≡ some_pin c k (binds reads marks) → b ≡ false → MarkedTo c n (suc k) marks
  free-left {b} says t =
      let e : bound c n k ≡ false = sym turn ∙ sym says ∙ t in
      record { long = so.long; are = λ j l. so.are j l ∙ go e j (ℕ_discrete j k) }
    where
      go : bound c n k ≡ false
          → (j : ℕ)
          → Dec (j ≡ k)
          → mark_by (bound_yet c n k j) (read_yet c n k j) ≡ mark_by (bound_yet c n (suc k) j) (read_yet c n (suc k) j)
      go e j (yes q) = rw (q, le-ltb k k (le_refl k), lt-ltb k (suc k) (le_refl _), e, or-false)
      go e j (no d) = rw (turn_other j k d, e, or-false)

-- ---- all lines

pub record Turns (c reads marks₀ marks : List ℕ) (k : ℕ) : Type 0 where
  pub at_most : k ≤ length marks₀
  pub long : length marks ≡ length marks₀
  pub counted : ReadsCounted (length marks₀) (reads_of c (length marks₀)) reads
  pub marked : MarkedTo c (length marks₀) k marks

pub no-turn : {c reads₀ marks : List ℕ} (reads : List ℕ) → MarkReady c reads₀ marks → ReadsCounted (length reads₀) (reads_of c (length reads₀)) reads → Turns c reads marks marks 0
no-turn {c} {reads₀} {marks} reads p q = record {
  at_most = omega arith;
  long = refl;
  counted = rw p.long at q;
  marked = record { long = refl; are = λ j l. (ap (λ (w : List ℕ). get_or w j 0) p.none_marked ∙ get_or-replicate (length marks) j 0 0 l) ∙ rw (le-ltb j 0 (omega arith)) };
}

module _ {c reads₀ reads marks₀ marks : List ℕ} {k : ℕ} (p : MarkReady c reads₀ marks₀) (so : Turns c reads marks₀ marks k) where
  pub turn-ready : k < length marks → MarkLineReady c reads k (length marks)
  turn-ready l = rw so.long (record { inputs = p.inputs; well = p.well; sourced = p.sourced; counted = so.counted; line = omega (arith, so.long) })

  pub next-turn : {marks' : List ℕ} → k < length marks → length marks' ≡ length marks → MarkLineDone c k marks marks' → Turns c reads marks₀ marks' (k + 1)
  next-turn l long q = record {
    at_most = omega (arith, so.long);
    long = long ∙ so.long;
    counted = so.counted;
    marked = rw (add-one k) ((rw so.long at q) so.marked);
  }

  pub all-marked : length marks ≤ k → Marked c (length marks₀) marks
  unfolding read_by_bound line_mark
  all-marked l =
      let e : k ≡ length marks₀ = omega (arith, so.at_most, so.long) in
      let m : MarkedTo c (length marks₀) (length marks₀) marks = rw e at so.marked in
      record {
        long = so.long;
        are = λ j h. rw (m.are j h, lt-ltb j (length marks₀) h, ← head-is p.well j) (go (bound c (length marks₀) j) (read_by_bound c (length marks₀) j));
      }
    where
      go : (b r : Bool) → mark_by b r ≡ choose b 2 (one (not b && r))
      go true r = refl
      go false r = refl

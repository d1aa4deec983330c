-- The invariant of the tally: the patterns of the set that stand below p are counted, and what they fail is noted.
-- Assumes nothing.
use mathlib.Core.Path.{◌≡◌, refl, sym, ◌∙◌}
use mathlib.Core.Bool.{Bool, true, false, ◌&&◌, and-false}
use mathlib.Core.List.{List}
use Prim.Native.Nat.{ℕ, ◌+◌, ◌*◌, ◌≤◌, ◌<◌}
use native.Mathlib.Decide.{ℕ_discrete, dec_lt}
use native.Mathlib.Nat.{mul_comm}
use native.Mathlib.Omega.{arith}
use lib.Dec.{ltb}
use lib.ListN.{length, replicate, length-replicate}
use borrow.Author.Tests.{lt-ltb, le-ltb}
use Rattle.ground.proofs.Filled.{filled_at}
use Rattle.tables.specs.Table.{Sized}
use Rattle.tables.proofs.Rows.{row_inside}
use Rattle.needs.specs.Needs.{Patterns}
use Rattle.counts.specs.Counted.{hit, Counted, Seen}
use Rattle.counts.specs.Owed.{CellsDone, RowRoom, CellsRoom, SeeDone, Notes}
use Rattle.counts.proofs.Detected.{seen_notes, SeenTo, seen_none, seen_one, seen_other, seen_all}
use Rattle.counts.proofs.Sets.{counted_same, counted_in, counted_none}
use Rattle.tallies.specs.Tally.{Tallied}
use Rattle.tallies.specs.Owed.{TallyRoom, Zeros, Cleared, PatternDone}

-- ---- a pattern's row of the table

pub row_cells : {c s t : List ℕ} {F P : ℕ} → TallyRoom c s t F P → (p : ℕ) → p < P → CellsRoom c t (p * F) F
row_cells {c} {s} {t} {F} {P} z p l = record { few = z.few_faults; cells = z.cells; entries = omega (arith, row_inside p P F l, z.table) }

pub row_faults : {c s t : List ℕ} {F P : ℕ} → TallyRoom c s t F P → (p : ℕ) → p < P → RowRoom s 0 t (p * F) F
row_faults {c} {s} {t} {F} {P} z p l = record { cells = omega (arith, z.faults, z.few_faults); entries = omega (arith, row_inside p P F l, z.table) }

-- what is noted of the faults is 1 or 0
pub row_notes : {c s t : List ℕ} {F P : ℕ} {K : Patterns} → TallyRoom c s t F P → Seen t F P K s → Notes s F
row_notes z seen = seen_notes seen (omega (arith, z.faults, z.few_faults))

-- ---- the room

-- other memory of the same size
pub room_after : {c s t : List ℕ} {F P : ℕ} (d r : List ℕ) → TallyRoom c s t F P → length d ≡ length c → length r ≡ length s → TallyRoom d r t F P
room_after d r z e f = record { few_faults = z.few_faults; few_patterns = z.few_patterns; cells = rw e z.cells; faults = f ∙ z.faults; table = z.table }

-- counts that were made just now, all 0
pub cleared : (cells : ℕ) {F : ℕ} → 256 * F + F ≤ cells → Cleared (replicate cells 0) F
cleared cells room = record { cells = rw (length-replicate {A = ℕ} cells 0) room; zeros = filled_at cells 0 }

start_room : {c t : List ℕ} {F P : ℕ} (k : ℕ) → k ≡ 256 → Cleared c F → Sized F P (length t) → TallyRoom c (replicate k 0) t F P
start_room {F = F} {P = P} k e clear z = record {
  few_faults = z.few_faults;
  few_patterns = z.few_patterns;
  cells = clear.cells;
  faults = length-replicate {A = ℕ} k 0 ∙ e;
  table = z.product ∙ mul_comm F P;
}

-- with notes that were made just now
pub started : {c t : List ℕ} {F P : ℕ} → Cleared c F → Sized F P (length t) → TallyRoom c (replicate 256 0) t F P × (Zeros c × Zeros (replicate 256 0))
started clear sized = (start_room 256 refl clear sized, (clear.zeros, filled_at 256 0))

-- ---- the patterns of the set K below p

pub record TalliedTo (t : List ℕ) (F P : ℕ) (K : Patterns) (c₀ s₀ : List ℕ) (p : ℕ) (c s : List ℕ) : Type 0 where
  pub at_most : p ≤ P
  pub cells : length c ≡ length c₀
  pub faults : length s ≡ length s₀
  pub counted : Counted t F P (λ q. ltb q p && K q) c
  pub seen : SeenTo t F K p s

module _ {t : List ℕ} {F P : ℕ} {K : Patterns} {c₀ s₀ : List ℕ} where
  pub none_tallied : Zeros c₀ × Zeros s₀ → TalliedTo t F P K c₀ s₀ 0 c₀ s₀
  none_tallied z = record {
    at_most = omega arith;
    cells = refl;
    faults = refl;
    counted = counted_same (counted_none z.0) (λ q. ltb q 0 && K q) (λ q l. rw (le-ltb q 0 (omega arith)));
    seen = seen_none z.1;
  }

  module _ {p : ℕ} {c s : List ℕ} (so : TalliedTo t F P K c₀ s₀ p c s) (l : p < P) where
    -- below p, and below the next one
    same : (q : ℕ) → (q ≡ p → ⊥) → Dec (q < p) → (ltb q p && K q) ≡ (ltb q (p + 1) && K q)
    same q n (yes h) = rw (lt-ltb q p h, lt-ltb q (p + 1) (omega arith))
    same q n (no h) = rw (le-ltb q p (omega arith), le-ltb q (p + 1) (omega arith))

    in_set : {d r : List ℕ}
        → K p ≡ true
        → length d ≡ length c
        → length r ≡ length s
        → CellsDone true (hit t (p * F) F) c d × SeeDone t (p * F) F s r
        → TalliedTo t F P K c₀ s₀ (p + 1) d r
    in_set of-it e f w = record {
      at_most = omega arith;
      cells = e ∙ so.cells;
      faults = f ∙ so.faults;
      counted =
          counted_in P p l (λ q. ltb q p && K q) (λ q. ltb q (p + 1) && K q) (rw (le-ltb p p (omega arith))) (rw (lt-ltb p (p + 1) (omega arith)) of-it)
          (λ q _ n. same q n (dec_lt q p)) so.counted w.0;
      seen = seen_one so.seen of-it w.1;
    }

    not_in_set : K p ≡ false → TalliedTo t F P K c₀ s₀ (p + 1) c s
    not_in_set other = record {
      at_most = omega arith;
      cells = so.cells;
      faults = so.faults;
      counted = counted_same so.counted (λ q. ltb q (p + 1) && K q) (λ q _. go q (ℕ_discrete q p));
      seen = seen_other so.seen other;
    }
      where
        go : (q : ℕ) → Dec (q ≡ p) → (ltb q p && K q) ≡ (ltb q (p + 1) && K q)
        go q (yes e) = rw (e, other) (and-false (ltb p p) ∙ sym (and-false (ltb p (p + 1))))
        go q (no n) = same q n (dec_lt q p)

    pub one_tallied : {d r : List ℕ} → length d ≡ length c → length r ≡ length s → PatternDone (K p) t (p * F) F c s d r → TalliedTo t F P K c₀ s₀ (p + 1) d r
    one_tallied {d} {r} e f w = go (K p) refl
      where
        go : (b : Bool) → K p ≡ b → TalliedTo t F P K c₀ s₀ (p + 1) d r
        go true q = in_set q e f (w.counts q)
        go false q = rw ((w.leaves q).0, (w.leaves q).1) (not_in_set q)

  pub all_tallied : {p : ℕ} {c s : List ℕ} → TalliedTo t F P K c₀ s₀ p c s → P ≤ p → Tallied t F P K c s
  all_tallied {p} so l = record {
    counted = counted_same so.counted K (λ q h. rw (lt-ltb q p (omega arith)));
    seen = seen_all so.seen (omega (arith, so.at_most));
  }

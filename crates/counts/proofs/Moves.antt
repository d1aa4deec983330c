-- Cells that a pattern moves: one cell more, one row more.
-- Assumes nothing.
use mathlib.Core.Path.{◌≡◌, refl}
use mathlib.Core.Bool.{Bool, true, false, ◌&&◌, ◌||◌}
use mathlib.Core.List.{List}
use Prim.Native.Nat.{ℕ, ◌+◌, ◌-◌, ◌*◌, ◌≤◌, ◌<◌}
use native.Mathlib.Decide.{ℕ_discrete, dec_lt}
use native.Mathlib.Nat.{zero-add}
use native.Mathlib.Numerals.{add-one}
use native.Mathlib.Omega.{arith}
use lib.Dec.{eqb, leb, ltb}
use lib.ListN.{length, get_or, set}
use lib.Seq.{get_or-set_same, get_or-set_other}
use borrow.Author.Tests.{lt-ltb, le-ltb, le-leb, lt-leb, leb-true, ltb-true}
use Rattle.ground.specs.Choose.{one}
use Rattle.ground.specs.Below.{any_below}
use Rattle.ground.proofs.Tests.{both, never_both, one-either}
use Rattle.ground.proofs.Below.{some_any}
use Rattle.counts.specs.Counted.{hit_row, hit_pair, hit}
use Rattle.counts.specs.Owed.{Counts, CellsDone}

-- ---- one count

counts_none : (into : Bool) (a : ℕ) → a < 256 → Counts into 0 a a
counts_none true a l = omega arith
counts_none false a l = omega arith

counts-then : (into : Bool) (x y a b c : ℕ) → Counts into x a b → Counts into y b c → Counts into (x + y) a c
counts-then true x y a b c d e = omega arith
counts-then false x y a b c d e = omega arith

-- ---- any cells

-- every cell is a byte
abbrev pub Bytes : List ℕ → Type 0
Bytes c = (k : ℕ) → get_or c k 0 < 256

pub moved_none : (into : Bool) {h : ℕ → Bool} {c : List ℕ} → Bytes c → ((k : ℕ) → h k ≡ false) → CellsDone into h c c
moved_none into byte none = record { cell = λ k. rw (none k) (counts_none into _ (byte k)) }

module _ {into : Bool} {h l : ℕ → Bool} {old mid : List ℕ} (so : CellsDone into h old mid) where
  -- the same cells
  pub moved_same : ((k : ℕ) → l k ≡ h k) → CellsDone into l old mid
  moved_same same = record { cell = λ k. rw (same k) (so.cell k) }

  -- one cell more
  moved_cell : (j r : ℕ)
      → j < length mid
      → h j ≡ false
      → ((k : ℕ) → (k ≡ j → ⊥) → l k ≡ h k)
      → Counts into (one (l j)) (get_or mid j 0) r
      → CellsDone into l old (set mid j r)
  moved_cell j r room off same e = record { cell = λ k. go k (ℕ_discrete k j) }
    where
      go : (k : ℕ) → Dec (k ≡ j) → Counts into (one (l k)) (get_or old k 0) (get_or (set mid j r) k 0)
      go k (yes q) =
          rw (q, get_or-set_same mid j r 0 room)
          (rw (zero-add (one (l j))) at (counts-then into 0 (one (l j)) (get_or old j 0) (get_or mid j 0) r (rw off at (so.cell j)) e))
      go k (no d) = rw (get_or-set_other mid j k r 0 d, same k d) (so.cell k)

  -- other cells more
  pub moved_then : {new : List ℕ} → CellsDone into l mid new → ((k : ℕ) → (h k && l k) ≡ false) → CellsDone into (λ k. h k || l k) old new
  moved_then {new} more apart = record {
    cell = λ k.
        rw (one-either (h k) (l k) (apart k))
        (counts-then into (one (h k)) (one (l k)) (get_or old k 0) (get_or mid k 0) (get_or new k 0) (so.cell k) (more.cell k));
  }

-- ---- the cells of a row

module _ (t : List ℕ) (from want at : ℕ) where
  row_inside : (n k : ℕ) → hit_row t from want at n k ≡ true → (at ≤ k) × (k < at + n)
  unfolding hit_row
  row_inside n k w =
      let p = both (leb at k) _ w in
      let q = both (ltb k (at + n)) _ p.1 in
      (leb-true at k p.0, ltb-true k (at + n) q.0)

  pub row_outside : (n k : ℕ) → ((at ≤ k) → (k < at + n) → ⊥) → hit_row t from want at n k ≡ false
  row_outside n k out = go (hit_row t from want at n k) refl
    where
      go : (b : Bool) → hit_row t from want at n k ≡ b → b ≡ false
      go true w = let i = row_inside n k w in absurd (out i.0 i.1)
      go false w = refl

  row_other : (n k : ℕ) → (k ≡ at + n → ⊥) → hit_row t from want at (n + 1) k ≡ hit_row t from want at n k
  unfolding hit_row
  row_other n k d = go (dec_lt k (at + n))
    where
      go : Dec (k < at + n) → hit_row t from want at (n + 1) k ≡ hit_row t from want at n k
      go (yes l) = rw (lt-ltb k (at + n) l, lt-ltb k (at + (n + 1)) (omega arith))
      go (no g) = rw (le-ltb k (at + n) (omega arith), le-ltb k (at + (n + 1)) (omega arith))

  -- at its f-th cell
  pub row_at : (n f : ℕ) → f < n → hit_row t from want at n (at + f) ≡ eqb (get_or t (from + f) 0) want
  unfolding hit_row
  row_at n f l =
      let q : at + f - at ≡ f = omega arith in
      rw (le-leb at (at + f) (omega arith), lt-ltb (at + f) (at + n) (omega arith), q)

  -- none is counted, and then the next one
  pub row_none : {into : Bool} {c : List ℕ} → Bytes c → CellsDone into (hit_row t from want at 0) c c
  row_none {into} byte = moved_none into byte (λ k. row_outside 0 k (λ a b. omega arith))

  pub row_next : {into : Bool} {old new : List ℕ} (f : ℕ) {x : ℕ} (r : ℕ)
      → CellsDone into (hit_row t from want at f) old new
      → x ≡ one (eqb (get_or t (from + f) 0) want)
      → at + f < length new
      → Counts into x (get_or new (at + f) 0) r
      → CellsDone into (hit_row t from want at (f + 1)) old (set new (at + f) r)
  row_next f r so is room c =
      moved_cell so (at + f) r room (row_outside f (at + f) (λ a b. omega arith)) (row_other f)
      (rw (row_at (f + 1) f (omega arith), ← is) c)

-- ---- the cells of all rows

module _ (t : List ℕ) (from : ℕ) where
  -- where g's own entry is unknown, and where it is known
  pub pairs_unknown : {into : Bool} {c : List ℕ} (g : ℕ) → Bytes c → 1 < get_or t (from + g) 0 → CellsDone into (λ k. hit_pair t from k g) c c
  unfolding hit_pair
  pairs_unknown {into} g byte u = moved_none into byte (λ k. rw (lt-leb (get_or t (from + g) 0) 1 u))

  pub pairs_known : {into : Bool} {old new : List ℕ} (g : ℕ)
      → get_or t (from + g) 0 ≤ 1
      → CellsDone into (hit_row t from (1 - get_or t (from + g) 0) (256 * g) g) old new
      → CellsDone into (λ k. hit_pair t from k g) old new
  unfolding hit_pair
  pairs_known g u so = moved_same so (λ k. rw (le-leb (get_or t (from + g) 0) 1 u))

  pair_inside : (g k : ℕ) → hit_pair t from k g ≡ true → (256 * g ≤ k) × (k < 256 * g + g)
  unfolding hit_pair
  pair_inside g k w = row_inside t from (1 - get_or t (from + g) 0) (256 * g) g k (both (leb (get_or t (from + g) 0) 1) _ w).1

  pub pair_outside : (g k : ℕ) → (256 * g ≤ k → k < 256 * g + g → ⊥) → hit_pair t from k g ≡ false
  pair_outside g k out = go (hit_pair t from k g) refl
    where
      go : (b : Bool) → hit_pair t from k g ≡ b → b ≡ false
      go true w = let i = pair_inside g k w in absurd (out i.0 i.1)
      go false w = refl

  -- cells past the first g rows of pairs are in none of them
  past_pairs : (g k : ℕ) → g ≤ 256 → any_below g (hit_pair t from k) ≡ true → k < 256 * g
  past_pairs g k few w = let h = some_any g (hit_pair t from k) w in omega (arith, h.1, pair_inside h.0 k h.2)

  -- another row of pairs, and the row of faults after all of them
  module _ {into : Bool} {old new : List ℕ} (g : ℕ) (so : CellsDone into (λ k. any_below g (hit_pair t from k)) old new) where
    pub pairs_next : {last : List ℕ} → g < 256 → CellsDone into (λ k. hit_pair t from k g) new last → CellsDone into (λ k. any_below (g + 1) (hit_pair t from k)) old last
    pairs_next few more =
        rw (add-one g)
        (moved_then so more (λ k. never_both (any_below g (hit_pair t from k)) (hit_pair t from k g) (λ w.
        pair_outside g k (λ a b. omega (arith, past_pairs g k (omega arith) w)))))

    pub faults_next : {last : List ℕ} → g ≤ 256 → CellsDone into (hit_row t from 1 (256 * g) g) new last → CellsDone into (hit t from g) old last
    unfolding hit
    faults_next few more =
        moved_then so more (λ k. never_both (any_below g (hit_pair t from k)) (hit_row t from 1 (256 * g) g k) (λ w.
        row_outside t from 1 (256 * g) g k (λ a b. omega (arith, past_pairs g k few w))))

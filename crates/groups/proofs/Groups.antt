-- The loop of `fill_groups_in_steps`: group by group the table, of which the last may be a partial one.
-- Assumes nothing.
use mathlib.Core.Path.{◌≡◌, sym, ap, ◌∙◌}
use mathlib.Core.Logic.{◌⊎◌, inl, inr}
use mathlib.Core.List.{List, ◌++◌, append_assoc}
use Prim.Native.Nat.{ℕ, ◌+◌, ◌*◌, ◌-◌, ◌/◌, ◌≤◌, ◌<◌, min}
use native.Mathlib.Nat.{add-mul, zero-mul, mul_comm, mul-le-mul_right}
use native.Mathlib.Omega.{arith}
use lib.ListN.{length, take, drop, length-append, length-take, length-drop}
use lib.Seq.{take_at, take_all, length-take-le}
use Rattle.ground.specs.Lists.{gather}
use Rattle.ground.proofs.Tests.{either}
use Rattle.ground.proofs.Gather.{gather-same, gather_add}
use Rattle.lists.specs.Faults.{fault_count}
use Rattle.lists.specs.Patterns.{pattern_count, pattern_at}
use Rattle.lane_lines.specs.Lines.{both_words_under}
use Rattle.rows.specs.Table.{Forces, row_under, table_to_under, table_under, last_fault}
use Rattle.rows.proofs.Part.{still_ready}
use Rattle.rows.proofs.Entries.{made}
use Rattle.groups.specs.Work.{group_at, lane_work_under}
use Rattle.rows.specs.Owed.{TableReady}
use Rattle.groups.specs.Owed.{patterns_from, Next, GroupCount, PutGroupDone, GroupsDone}
use Rattle.groups.proofs.Columns.{both_long}
use Rattle.groups.proofs.Parts.{from_count, from_at, entries_fit}

-- ---- one group

module _ (forces : Forces) {c : List ℕ} {n m : ℕ} {fs ps : List ℕ} {table work from rows : ℕ} (r : TableReady 256 4 c n m fs ps table work) (next : Next from rows (pattern_count m ps)) where
  count_is : pattern_count m (patterns_from m ps from rows) ≡ rows
  count_is = from_count ps r.patterns next r.some_inputs

  part_long : length (table_under forces c n m fs (patterns_from m ps from rows)) ≡ rows * fault_count fs
  part_long = (made forces c n m fs (patterns_from m ps from rows)).size ∙ ap (λ (x : ℕ). fault_count fs * x) count_is ∙ mul_comm (fault_count fs) rows

  -- its rows follow those before it
  rows_follow : table_to_under forces c n m fs ps from ++ table_under forces c n m fs (patterns_from m ps from rows) ≡ table_to_under forces c n m fs ps (from + rows)
  unfolding table_under
  rows_follow =
      ap (λ (x : List ℕ). table_to_under forces c n m fs ps from ++ x)
      (ap (gather (λ k. row_under forces c n fs (pattern_at m (patterns_from m ps from rows) k))) count_is
      ∙ gather-same (λ k. row_under forces c n fs (pattern_at m (patterns_from m ps from rows) k)) (λ k. row_under forces c n fs (pattern_at m ps (from + k))) rows
      (λ k l. ap (row_under forces c n fs) (from_at ps r.patterns next k l)))
      ∙ sym (gather_add (λ k. row_under forces c n fs (pattern_at m ps k)) from rows)

-- group g, with all of its patterns
is_group : {c : List ℕ} {n m : ℕ} {fs ps : List ℕ} {table work : ℕ} (g : ℕ) {rows : ℕ} → TableReady 256 4 c n m fs ps table work → Next (64 * g) rows (pattern_count m ps) → patterns_from m ps (64 * g) rows ≡ group_at m ps g
is_group {m = m} {ps = ps} g {rows} r next = go (either rows 64)
  where
    left : rows < 64 → length (drop (64 * g * m) ps) ≤ rows * m
    left l =
        let all : 64 * g + rows ≡ pattern_count m ps = next.last l in
        simp length-drop (omega (arith, r.patterns.multiple, add-mul (64 * g) rows m, mul_comm m (pattern_count m ps), ap (λ (x : ℕ). x * m) all))

    go : (rows < 64) ⊎ (64 ≤ rows) → patterns_from m ps (64 * g) rows ≡ group_at m ps g
    go (inl l) =
        take_all (rows * m) (drop (64 * g * m) ps) (left l)
        ∙ sym (take_all (64 * m) (drop (64 * g * m) ps) (omega (arith, left l, mul-le-mul_right m next.few)))
    go (inr l) = let e : rows ≡ 64 = omega (arith, next.few) in ap (λ (x : ℕ). take (x * m) (drop (64 * g * m) ps)) e

-- ---- the loop

-- how many patterns the first g groups of so many patterns have
abbrev pub rows_to : ℕ → ℕ → ℕ
rows_to g count = min (64 * g) count

-- the rows of the first g groups are in the table, and the work memory holds what the last of them left
pub record SoFar (forces : Forces) (c : List ℕ) (n m : ℕ) (fs ps t w : List ℕ) (groups g : ℕ) : Type 0 where
  pub at_most : g ≤ groups
  pub long : length t ≡ fault_count fs * pattern_count m ps
  pub room : length w ≡ 4 * n
  pub done : take (rows_to g (pattern_count m ps) * fault_count fs) t ≡ table_to_under forces c n m fs ps (rows_to g (pattern_count m ps))
  pub last : 1 ≤ g → w ≡ both_words_under (forces (last_fault fs)) c m (group_at m ps (g - 1)) n

pub start : {forces : Forces} {c : List ℕ} {n m : ℕ} {fs ps : List ℕ} (t w : List ℕ) (groups : ℕ) → TableReady 256 4 c n m fs ps (length t) (length w) → SoFar forces c n m fs ps t w groups 0
start {m = m} {fs = fs} {ps = ps} t w groups r =
    let none : rows_to 0 (pattern_count m ps) ≡ 0 = omega arith in
    record {
      at_most = omega arith;
      long = r.entries;
      room = r.room;
      done = rw (none, zero-mul);
      last = λ h. absurd (omega arith);
    }

module _ {forces : Forces} {c : List ℕ} {n m : ℕ} {fs ps t w : List ℕ} {groups g : ℕ} (so : SoFar forces c n m fs ps t w groups g) where
  pub still : {x y : ℕ} → TableReady 256 4 c n m fs ps x y → TableReady 256 4 c n m fs ps (length t) (length w)
  still r = still_ready r so.long so.room

  pub more : {rows : ℕ} {t' w' : List ℕ}
      → TableReady 256 4 c n m fs ps (length t) (length w)
      → g < groups
      → GroupCount (pattern_count m ps) groups
      → Next (64 * g) rows (pattern_count m ps)
      → PutGroupDone forces c n m fs ps (64 * g) rows t t' w'
      → SoFar forces c n m fs ps t' w' groups (g + 1)
  more {rows} {t'} {w'} r l count next p =
      let k = fault_count fs in
      let part = table_under forces c n m fs (patterns_from m ps (64 * g) rows) in
      let fits = entries_fit r next in
      let before : rows_to g (pattern_count m ps) ≡ 64 * g = omega (arith, count.begun g l) in
      let after : rows_to (g + 1) (pattern_count m ps) ≡ 64 * g + rows = to-next next.few next.inside next.last in
      let head : length (take (64 * g * k) t) ≡ 64 * g * k = length-take-le (64 * g * k) t (omega arith) in
      let front : length (take (64 * g * k) t ++ part) ≡ (64 * g + rows) * k =
      length-append (take (64 * g * k) t) part ∙ rw (head, part_long forces r next, add-mul (64 * g) rows k) in
      let back : g + 1 - 1 ≡ g = omega arith in
      record {
        at_most = omega arith;
        long = ap length p.table_is ∙ simp (length-append, length-take, length-drop, part_long forces r next) (omega (arith, so.long));
        room = ap length p.work_is ∙ both_long (forces (last_fault fs)) c m (patterns_from m ps (64 * g) rows) n;
        done =
            rw (after, p.table_is, ← append_assoc, take_at (take (64 * g * k) t ++ part) (drop (64 * g * k + rows * k) t) ((64 * g + rows) * k) front, rw before at so.done)
            (rows_follow forces r next);
        last = λ _. p.work_is ∙ ap (λ (x : List ℕ). both_words_under (forces (last_fault fs)) c m x n) (is_group g r next ∙ ap (group_at m ps) (sym back));
      }
    where
      to-next : {rows count : ℕ} → rows ≤ 64 → 64 * g + rows ≤ count → (rows < 64 → 64 * g + rows ≡ count) → rows_to (g + 1) count ≡ 64 * g + rows
      to-next {rows} {count} few inside last = go (either rows 64)
        where
          go : (rows < 64) ⊎ (64 ≤ rows) → rows_to (g + 1) count ≡ 64 * g + rows
          go (inl l) = omega (arith, last l)
          go (inr l) = omega arith

  pub finished : groups ≤ g → 1 ≤ pattern_count m ps → GroupCount (pattern_count m ps) groups → GroupsDone forces c n m fs ps t w
  unfolding table_under lane_work_under
  finished l some count =
      let e : g ≡ groups = omega (arith, so.at_most) in
      let all : rows_to g (pattern_count m ps) ≡ pattern_count m ps = omega (arith, count.enough) in
      let begun : 64 * (g - 1) < pattern_count m ps = count.begun (g - 1) (omega (arith, count.enough)) in
      let number : g - 1 ≡ (pattern_count m ps - 1) / 64 = omega (arith, count.enough) in
      record {
        table_is =
            sym (take_all (rows_to g (pattern_count m ps) * fault_count fs) t (rw all (omega (arith, so.long, mul_comm (pattern_count m ps) (fault_count fs)))))
            ∙ so.done
            ∙ ap (table_to_under forces c n m fs ps) all;
        work_is = so.last (omega (arith, count.enough)) ∙ ap (λ (x : ℕ). both_words_under (forces (last_fault fs)) c m (group_at m ps x) n) number;
      }

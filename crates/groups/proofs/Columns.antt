-- The loop of `fill_group`: fault by fault a column of the table.
-- Assumes nothing.
use mathlib.Core.Path.{◌≡◌, sym, ap, ◌∙◌}
use mathlib.Core.List.{List, ◌++◌}
use Prim.Native.Nat.{ℕ, ◌+◌, ◌*◌, ◌-◌, ◌≤◌, ◌<◌}
use native.Mathlib.Decide.{ℕ_discrete}
use native.Mathlib.Omega.{arith}
use lib.ListN.{length, get_or, take, drop, length-append, length-drop}
use lib.Seq.{take_at}
use borrow.Author.Tests.{lt-ltb}
use Rattle.lists.specs.declared.Fault.{Fault}
use Rattle.lists.specs.Faults.{fault_count, fault_at}
use Rattle.lists.specs.Patterns.{pattern_count, pattern_at}
use Rattle.simulate.specs.Simulate.{Forcing, unforced, values_to}
use Rattle.entry.specs.Entry.{entry_under}
use Rattle.entry.proofs.Words.{entry_small}
use Rattle.columns.specs.declared.EntryLanes.{EntryLanes}
use Rattle.columns.specs.Owed.{ColumnReady, PutColumnDone}
use Rattle.lane_lines.specs.Lines.{lane_pattern, forced_words, good_words, both_words_under}
use Rattle.lane_lines.specs.Owed.{GoodWordsReady, FaultyWordsReady}
use Rattle.lane_lines.proofs.Words.{words_long}
use Rattle.lane_lines.proofs.Inputs.{lines_ready}
use Rattle.lane_entries.specs.Owed.{FaultEntriesDone}
use Rattle.rows.proofs.Entries.{one_made}
use Rattle.rows.specs.Table.{Forces}
use Rattle.rows.specs.Owed.{TableReady, FaultsInSteps}
use Rattle.groups.specs.Owed.{GroupDone}

-- ---- the work memory

forced_long : (f : Forcing) (c : List ℕ) (m : ℕ) (ps : List ℕ) (n : ℕ) → length (forced_words f c m ps n) ≡ 2 * n
forced_long f c m ps n = words_long (λ i. values_to f c (lane_pattern m ps i) n) n

good_front : (c : List ℕ) (m : ℕ) (ps : List ℕ) (n : ℕ) (x : List ℕ) → take (2 * n) (good_words c m ps n ++ x) ≡ good_words c m ps n
good_front c m ps n x = take_at (good_words c m ps n) x (2 * n) (forced_long unforced c m ps n)

pub both_long : (f : Forcing) (c : List ℕ) (m : ℕ) (ps : List ℕ) (n : ℕ) → length (both_words_under f c m ps n) ≡ 4 * n
both_long f c m ps n =
    length-append (good_words c m ps n) (forced_words f c m ps n) ∙ omega (arith, forced_long unforced c m ps n, forced_long f c m ps n)

-- lane i carries pattern i
lane : (m : ℕ) (ps : List ℕ) (i : ℕ) → i < pattern_count m ps → lane_pattern m ps i ≡ pattern_at m ps i
unfolding lane_pattern
lane m ps i l = rw (lt-ltb i (pattern_count m ps) l)

-- ---- the loop

-- the first j columns are in the table, and the work memory holds the good lines and those of the last fault looked at
pub record SoFar (forces : Forces) (c : List ℕ) (n m : ℕ) (fs ps t w : List ℕ) (j : ℕ) : Type 0 where
  pub at_most : j ≤ fault_count fs
  pub long : length t ≡ fault_count fs * pattern_count m ps
  pub done : (i k : ℕ) → i < pattern_count m ps → k < j → get_or t (i * fault_count fs + k) 0 ≡ entry_under (forces (fault_at fs k)) c (pattern_at m ps i) n
  pub room : length w ≡ 4 * n
  pub good : take (2 * n) w ≡ good_words c m ps n
  pub last : 1 ≤ j → w ≡ both_words_under (forces (fault_at fs (j - 1))) c m ps n

module _ {c : List ℕ} {n m : ℕ} {fs ps : List ℕ} (t w : List ℕ) (r : TableReady 64 4 c n m fs ps (length t) (length w)) where
  pub good-ready : GoodWordsReady c m n ps (length w)
  good-ready = record { well = r.well; group = record { records = r.patterns; few_inputs = r.most_inputs }; four = r.room }

  pub start : {forces : Forces} {w' : List ℕ} → w' ≡ good_words c m ps n ++ drop (2 * n) w → SoFar forces c n m fs ps t w' 0
  start {forces} {w'} e = record {
    at_most = omega arith;
    long = r.entries;
    done = λ i k a b. absurd (omega arith);
    room = ap length e ∙ length-append (good_words c m ps n) (drop (2 * n) w) ∙ simp length-drop (omega (arith, forced_long unforced c m ps n, r.room));
    good = rw e (good_front c m ps n (drop (2 * n) w));
    last = λ h. absurd (omega arith);
  }

module _ {forces : Forces} {c : List ℕ} {n m : ℕ} {fs ps t w : List ℕ} {j : ℕ} (so : SoFar forces c n m fs ps t w j) where
  module _ {table work : ℕ} (r : TableReady 64 4 c n m fs ps table work) (l : j < fault_count fs) where
    pub fault_ready : {fault : Fault} {step : ℕ} → FaultsInSteps step n fs → fault ≡ fault_at fs j → FaultyWordsReady c fault step n (length w)
    fault_ready steps e = record {
      lines = lines_ready r.well;
      steps = record { line = rw e (steps.lines j l); inside = steps.inside; most = r.most_lines };
      value = rw e (r.fault_values j l);
      four = so.room;
    }

    pub column_ready : ColumnReady (fault_count fs) (pattern_count m ps) j (length t)
    column_ready = record { rows = r.patterns.few; columns = r.faults.few; inside = l; size = so.long }

  pub more : {fault : Fault} {w' t' : List ℕ} {e : EntryLanes}
      → j < fault_count fs
      → fault ≡ fault_at fs j
      → FaultEntriesDone (forces fault) c n w w' e
      → PutColumnDone (fault_count fs) (pattern_count m ps) j e t t'
      → SoFar forces c n m fs ps t' w' (j + 1)
  more {fault} {w'} {t'} {e} l is looks puts =
      let read = rw is at (looks m ps so.good) in
      let put = puts (λ i. entry_under (forces (fault_at fs j)) c (lane_pattern m ps i) n) (λ i _. entry_small (forces (fault_at fs j)) c (lane_pattern m ps i) n) read.entries_are in
      let back : j + 1 - 1 ≡ j = omega arith in
      record {
        at_most = omega arith;
        long = put.long ∙ so.long;
        done = λ i k a b. at i k a b (put.here i a) (put.others i k a) (ℕ_discrete k j);
        room = ap length read.words_are ∙ both_long (forces (fault_at fs j)) c m ps n;
        good = rw read.words_are (good_front c m ps n (forced_words (forces (fault_at fs j)) c m ps n));
        last = λ _. read.words_are ∙ ap (λ (x : ℕ). both_words_under (forces (fault_at fs x)) c m ps n) (sym back);
      }
    where
      at : (i k : ℕ) → i < pattern_count m ps → k < j + 1
          → get_or t' (i * fault_count fs + j) 0 ≡ entry_under (forces (fault_at fs j)) c (lane_pattern m ps i) n
          → (k < fault_count fs → (k ≡ j → ⊥) → get_or t' (i * fault_count fs + k) 0 ≡ get_or t (i * fault_count fs + k) 0)
          → Dec (k ≡ j)
          → get_or t' (i * fault_count fs + k) 0 ≡ entry_under (forces (fault_at fs k)) c (pattern_at m ps i) n
      at i k a b here others (yes q) = rw (q, ← lane m ps i a) here
      at i k a b here others (no d) = others (omega arith) d ∙ so.done i k a (omega (arith, d))

  pub finished : {table work : ℕ} → TableReady 64 4 c n m fs ps table work → fault_count fs ≤ j → GroupDone forces c n m fs ps t w
  finished r l =
      let e : j ≡ fault_count fs = omega (arith, so.at_most) in
      record {
        table_is = one_made forces c n m fs ps (record { size = so.long; entry = λ i k a b. so.done i k a (omega arith) });
        work_is = so.last (omega (arith, r.faults.some)) ∙ ap (λ (x : ℕ). both_words_under (forces (fault_at fs (x - 1))) c m ps n) e;
      }

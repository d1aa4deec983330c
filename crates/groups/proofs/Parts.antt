-- The patterns of a group and their part of the table, lent.
-- Assumes nothing.
use mathlib.Core.Path.{◌≡◌, sym, ap, ◌∙◌}
use mathlib.Core.List.{List}
use Prim.Native.Nat.{ℕ, ◌+◌, ◌*◌, ◌/◌, ◌≤◌, ◌<◌}
use native.Mathlib.Nat.{add-mul, mul_comm, mul-le-mul_right, mul-div_left}
use native.Mathlib.Omega.{arith}
use lib.ListN.{length, get_or, take, drop, length-take, length-drop}
use lib.Seq.{get_or-take, get_or-drop, ext_get_or, drop-drop}
use Rattle.answers.specs.Records.{Records}
use Rattle.lists.specs.Faults.{fault_count}
use Rattle.lists.specs.Patterns.{pattern_count, pattern_at}
use Rattle.lists.proofs.Patterns.{part_fits}
use Rattle.lists.proofs.Parts.{lent, back, width_is, lent_long}
use Rattle.simulate.proofs.Small.{part_small}
use Rattle.lane_lines.specs.Lines.{both_words_under}
use Rattle.rows.specs.Table.{Forces, last_fault}
use Rattle.rows.specs.Owed.{TableReady}
use Rattle.groups.specs.Owed.{GroupDone, patterns_from, Next, PutGroupDone}

-- so many rows of a width from one on lie in the memory of all
rows_fit : (from rows : ℕ) {count : ℕ} (width : ℕ) {size : ℕ} → from + rows ≤ count → size ≡ width * count → from * width + rows * width ≤ size
rows_fit from rows {count} width h e =
    omega (arith, add-mul from rows width, mul-le-mul_right width h, mul_comm count width)

module _ {m : ℕ} (ps : List ℕ) {most from rows : ℕ} (records : Records m most (length ps)) (next : Next from rows (pattern_count m ps)) where
  pub patterns_fit : from * m + rows * m ≤ length ps
  patterns_fit = rows_fit from rows m next.inside records.multiple

  from_long : length (patterns_from m ps from rows) ≡ rows * m
  from_long = simp (length-take, length-drop) (omega (arith, patterns_fit))

  module _ (some : 1 ≤ m) where
    pub from_count : pattern_count m (patterns_from m ps from rows) ≡ rows
    from_count = ap (λ (x : ℕ). x / m) from_long ∙ mul-div_left rows some

    pub from_records : Records m 64 (length (patterns_from m ps from rows))
    from_records = record {
      multiple = from_long ∙ mul_comm rows m ∙ ap (λ (x : ℕ). m * x) (sym from_count);
      some = rw from_count next.some;
      few = rw from_count next.few;
    }

  -- pattern k of the group
  pub from_at : (k : ℕ) → k < rows → pattern_at m (patterns_from m ps from rows) k ≡ pattern_at m ps (from + k)
  from_at k l = ext_get_or 0 (pattern_at m (patterns_from m ps from rows) k) (pattern_at m ps (from + k)) (simp (length-take, length-drop) (omega (arith, fits, whole, patterns_fit, add-mul from k m))) same
    where
      fits : k * m + m ≤ m * rows
      fits = part_fits k rows m l

      whole : m * rows ≡ rows * m
      whole = mul_comm m rows

      same : (x : ℕ) → x < length (pattern_at m (patterns_from m ps from rows) k) → get_or (pattern_at m (patterns_from m ps from rows) k) x 0 ≡ get_or (pattern_at m ps (from + k)) x 0
      same x h =
          let inside : x < m = omega (arith, length-take m (drop (k * m) (patterns_from m ps from rows)), h) in
          get_or-take m (drop (k * m) (patterns_from m ps from rows)) x 0 inside
          ∙ get_or-drop (k * m) (patterns_from m ps from rows) x 0
          ∙ get_or-take (rows * m) (drop (from * m) ps) (k * m + x) 0 (omega (arith, fits, whole))
          ∙ get_or-drop (from * m) ps (k * m + x) 0
          ∙ ap (λ (y : ℕ). get_or ps y 0) (omega (arith, add-mul from k m))
          ∙ sym (get_or-drop ((from + k) * m) ps x 0)
          ∙ sym (get_or-take m (drop ((from + k) * m) ps) x 0 inside)

module _ {c : List ℕ} {n m : ℕ} {fs ps : List ℕ} {table work from rows : ℕ} (r : TableReady 256 4 c n m fs ps table work) (next : Next from rows (pattern_count m ps)) where
  pub entries_fit : from * fault_count fs + rows * fault_count fs ≤ table
  entries_fit = rows_fit from rows (fault_count fs) next.inside r.entries

module _ (c : List ℕ) (n m : ℕ) (fs ps t : List ℕ) (from rows : ℕ) where
  lent_patterns : lent (from * m) (rows * m) ps ≡ patterns_from m ps from rows
  lent_patterns = ap (λ (x : ℕ). take x (drop (from * m) ps)) (width_is (from * m) (rows * m))

  pub group_ready : {work : ℕ} → TableReady 256 4 c n m fs ps (length t) work
      → Next from rows (pattern_count m ps)
      → TableReady 64 4 c n m fs (lent (from * m) (rows * m) ps) (length (lent (from * fault_count fs) (rows * fault_count fs) t)) work
  group_ready r next =
      rw (lent_patterns, lent_long (from * fault_count fs) (rows * fault_count fs) t (entries_fit r next))
      (record {
        well = r.well;
        most_lines = r.most_lines;
        some_inputs = r.some_inputs;
        most_inputs = r.most_inputs;
        faults = r.faults;
        fault_lines = r.fault_lines;
        fault_values = r.fault_values;
        patterns = from_records ps r.patterns next r.some_inputs;
        pattern_values = part_small ps (rows * m) (from * m) r.pattern_values;
        entries = mul_comm rows (fault_count fs) ∙ ap (λ (x : ℕ). fault_count fs * x) (sym (from_count ps r.patterns next r.some_inputs));
        room = r.room;
      })

  pub put : (forces : Forces) (u w' : List ℕ) → GroupDone forces c n m fs (lent (from * m) (rows * m) ps) u w'
      → PutGroupDone forces c n m fs ps from rows t (back (from * fault_count fs) (rows * fault_count fs) t u) w'
  put forces u w' d = record {
    table_is =
        rw (d.table_is, lent_patterns, width_is (from * fault_count fs) (rows * fault_count fs), drop-drop (rows * fault_count fs) (from * fault_count fs) t);
    work_is = d.work_is ∙ ap (λ (x : List ℕ). both_words_under (forces (last_fault fs)) c m x n) lent_patterns;
  }

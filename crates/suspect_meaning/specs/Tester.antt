-- A tester that is to be believed: it fills the X's of a pattern as it likes, and what it reports is what the part with the fault does then.
-- Assumes nothing.
use Rattle.std.specs.Prelude.{◌≡◌, true, false, List, ℕ, ◌<◌}
use Rattle.circuit.specs.Record.{lines_of, inputs_of}
use Rattle.lists.specs.Faults.{fault_count, fault_at}
use Rattle.lists.specs.Patterns.{pattern_count, pattern_at}
use Rattle.simulate.specs.Boolean.{Vector}
use Rattle.simulate.specs.Vectors.{Fills}
use Rattle.meaning.specs.Entries.{Compared, EqualAt}
use Rattle.reports.specs.Reports.{Report}

-- of a circuit c, faults fs and patterns ps with their dictionary t: report q is about one of the patterns, and true of a part with fault j
pub record TrueOf (c fs ps t : List ℕ) (j : ℕ) (q : Report) : Type 0 where
  -- the dictionary was lent with it
  pub lent : q.table ≡ t
  pub faults : q.faults ≡ fault_count fs
  pub pattern : q.pattern < pattern_count (inputs_of c) ps
  -- the vector that the tester made of the pattern
  pub vector : Vector
  pub fills : Fills (pattern_at (inputs_of c) ps q.pattern) vector
  -- failed: some compared output differed; passed: none did
  pub differed : q.failed ≡ true
      → (k : ℕ) × Compared c (pattern_at (inputs_of c) ps q.pattern) (lines_of c) k × (EqualAt c (fault_at fs j) (lines_of c) vector k → ⊥)
  pub agreed : q.failed ≡ false
      → (k : ℕ) → Compared c (pattern_at (inputs_of c) ps q.pattern) (lines_of c) k → EqualAt c (fault_at fs j) (lines_of c) vector k

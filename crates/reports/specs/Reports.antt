-- Reports of a tester, each with the table that is lent with it, and which faults remain after them.
-- Assumes nothing.
use Rattle.std.specs.Prelude.{Bool, true, not, ◌&&◌, List, [], ◌∷◌, ℕ, eqb}
use Rattle.ground.specs.Choose.{choose}
use Rattle.tables.specs.Entries.{pass, fail, entries_of}

-- the counts and the table as lent, the pattern, and whether it failed
pub record Report : Type 0 where
  pub faults : ℕ
  pub patterns : ℕ
  pub table : List ℕ
  pub pattern : ℕ
  pub failed : Bool

abbrev pub report_of : ℕ → ℕ → List ℕ → ℕ → Bool → Report
report_of F P t p failed = record { faults = F; patterns = P; table = t; pattern = p; failed = failed }

-- the entry of a fault in it
abbrev pub entry_in : Report → ℕ → ℕ
entry_in r f = entries_of r.faults r.table r.pattern f

-- the entry that speaks against a fault: pass where the pattern failed, fail where it passed
abbrev pub against : Bool → ℕ
against failed = choose failed pass fail

-- the report speaks against fault f
unfoldable pub speaks_against : Report → ℕ → Bool
speaks_against r f = eqb (entry_in r f) (against r.failed)

-- fault f remains after the reports: none of them speaks against it
unfoldable pub remains : List Report → ℕ → Bool
remains [] f = true
remains (r ∷ rs) f = remains rs f && not (speaks_against r f)

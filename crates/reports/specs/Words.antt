-- The same in the request's own words, as statements. The tests of `Reports` are proved to say this.
-- Assumes nothing.
use Rattle.std.specs.Prelude.{◌≡◌, ◌⊎◌, true, false, List, [], ◌∷◌, ℕ}
use Rattle.tables.specs.Entries.{pass, fail}
use Rattle.reports.specs.Reports.{Report, entry_in}

-- r is one of the reports
abbrev pub Among : Report → List Report → Type 0
Among r [] = ⊥
Among r (q ∷ rs) = (r ≡ q) ⊎ Among r rs

-- no pattern reported failed has the fault's entry pass, and none reported passed has it fail
pub record Remains (rs : List Report) (f : ℕ) : Type 0 where
  pub none_passes : (r : Report) → Among r rs → r.failed ≡ true → entry_in r f ≡ pass → ⊥
  pub none_fails : (r : Report) → Among r rs → r.failed ≡ false → entry_in r f ≡ fail → ⊥

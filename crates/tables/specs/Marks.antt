-- Marks lent with a table, one per pattern, and the refusals of both: 12 and 13 of the table, then 10 of the marks.
-- Assumes nothing.
use Rattle.std.specs.Prelude.{List, [], ◌∷◌, ◌++◌, ℕ, length}
use Rattle.answers.specs.Rules.{Rule}
use Rattle.answers.specs.Lent.{exact}
use Rattle.tables.specs.Table.{table_rules}

-- one mark per pattern
unfoldable pub marks_rules : ℕ → List ℕ → List Rule
marks_rules P m = exact P (length m) ∷ []

abbrev pub kept_rules : ℕ → ℕ → List ℕ → List ℕ → List Rule
kept_rules F P t m = table_rules F P t ++ marks_rules P m

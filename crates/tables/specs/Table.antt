-- A table in memory, and the refusals 12 and 13: its sizes, and its bytes.
-- Assumes nothing.
use Rattle.std.specs.Prelude.{◌≡◌, Bool, ◌&&◌, List, [], ◌∷◌, ℕ, ◌*◌, ◌≤◌, eqb, leb, length}
use Rattle.answers.specs.Rules.{Rule}
use Rattle.answers.specs.Rules.Rule.{whole, each}
use Rattle.answers.specs.Small.{small_ok, Small}
use Rattle.answers.specs.declared.Reason.TheVariants.{TableSize, TableByte}

abbrev pub in_range : ℕ → Bool
in_range n = leb 1 n && leb n 256

-- fault and pattern count in 1 to 256, and the table their product: as a test, and in words
unfoldable pub sizes_ok : ℕ → ℕ → ℕ → Bool
sizes_ok F P bytes = in_range F && (in_range P && eqb bytes (F * P))

pub record Sized (F P bytes : ℕ) : Type 0 where
  pub some_fault : 1 ≤ F
  pub few_faults : F ≤ 256
  pub some_pattern : 1 ≤ P
  pub few_patterns : P ≤ 256
  pub product : bytes ≡ F * P

-- each entry is 0, 1 or 2
unfoldable pub table_rules : ℕ → ℕ → List ℕ → List Rule
table_rules F P t = whole TableSize (sizes_ok F P (length t)) (Sized F P (length t)) 0 ∷ each TableByte (length t) (small_ok t) (Small t) ∷ []

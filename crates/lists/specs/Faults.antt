-- Fault records, eight bytes each: what a record says, its layout, and the refusals 6 and 7.
-- Assumes nothing.
use Rattle.std.specs.Prelude.{◌≡◌, Bool, ◌&&◌, List, [], ◌∷◌, ℕ, ◌+◌, ◌*◌, ◌≤◌, ◌<◌, ◌/◌, eqb, leb, ltb, length, get_or}
use Rattle.answers.specs.Rules.{Rule}
use Rattle.answers.specs.Rules.Rule.{whole, each}
use Rattle.answers.specs.Records.{records_ok, Records}
use Rattle.gates.specs.Gate.{pins_of}
use Rattle.little.specs.Little.{pair_at}
use Rattle.circuit.specs.Record.{lines_of, kind_at}
use Rattle.lists.specs.declared.Fault.{Fault}
use Rattle.answers.specs.declared.Reason.TheVariants as reason

abbrev pub fault_count : List ℕ → ℕ
fault_count fs = length fs / 8

-- bytes 0 and 1 the line, byte 2 the site, byte 3 the stuck value
abbrev pub fault_line : List ℕ → ℕ → ℕ
fault_line fs j = pair_at fs (8 * j)

abbrev pub fault_site : List ℕ → ℕ → ℕ
fault_site fs j = get_or fs (8 * j + 2) 0

abbrev pub fault_value : List ℕ → ℕ → ℕ
fault_value fs j = get_or fs (8 * j + 3) 0

abbrev pub fault_at : List ℕ → ℕ → Fault
fault_at fs j = record { line = fault_line fs j; site = fault_site fs j; value = fault_value fs j }

-- the fault is at this site of this line
abbrev pub is_at : Fault → ℕ → ℕ → Bool
is_at fault line site = eqb line fault.line && eqb site fault.site

-- the layout as a test
unfoldable pub fault_ok : List ℕ → List ℕ → ℕ → Bool
fault_ok c fs j =
    ltb (fault_line fs j) (lines_of c)
    && (leb (fault_site fs j) (pins_of (kind_at c (fault_line fs j)))
    && (leb (fault_value fs j) 1 && (eqb (pair_at fs (8 * j + 4)) 0 && eqb (pair_at fs (8 * j + 6)) 0)))

-- and in words: the line is there, the pin exists on that kind, the stuck value is 0 or 1, bytes 4 to 7 are zero
pub record FaultLayout (c fs : List ℕ) (j : ℕ) : Type 0 where
  pub line : fault_line fs j < lines_of c
  pub site : fault_site fs j ≤ pins_of (kind_at c (fault_line fs j))
  pub value : fault_value fs j ≤ 1
  pub low : pair_at fs (8 * j + 4) ≡ 0
  pub high : pair_at fs (8 * j + 6) ≡ 0

-- at most so many faults: 256, or 1 for search and clauses
unfoldable pub fault_rules : ℕ → List ℕ → List ℕ → List Rule
fault_rules most c fs =
    whole reason.FaultsSize (records_ok 8 most (length fs)) (Records 8 most (length fs)) 0
    ∷ each reason.FaultLayout (fault_count fs) (fault_ok c fs) (FaultLayout c fs)
    ∷ []

-- what a list is that is not refused
pub record GoodFaults (most : ℕ) (c fs : List ℕ) : Type 0 where
  pub records : Records 8 most (length fs)
  pub faults : (j : ℕ) → j < fault_count fs → FaultLayout c fs j

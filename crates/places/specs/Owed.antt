-- What the functions of the places owe each other and their callers; no reader of the promises needs it.
-- Assumes nothing.
use Rattle.std.specs.Prelude.{◌≡◌, true, List, ℕ, ◌+◌, ◌-◌, ◌≤◌, ◌<◌, ltb, length, get_or}
use Rattle.ground.specs.Choose.{choose}
use Rattle.ground.specs.Lists.{elem, index_in, table}
use Rattle.records.specs.Owed.{Below}

-- the number that stands on line k: the inputs' come after those of the gates
unfoldable pub number_by : ℕ → List ℕ → ℕ → ℕ
number_by inputs order k = choose (ltb k inputs) (length order + k) (get_or order (k - inputs) 0)

-- which definition it has
abbrev pub definition_by : List ℕ → List ℕ → List ℕ → ℕ → ℕ
definition_by defs numbers order k = index_in numbers (number_by (length defs - length order) order k)

-- and the byte of that
unfoldable pub place_by : List ℕ → List ℕ → List ℕ → ℕ → ℕ
place_by defs numbers order k = get_or defs (definition_by defs numbers order k) 0

-- of all lines
abbrev pub places_by : List ℕ → List ℕ → List ℕ → List ℕ
places_by defs numbers order = table (place_by defs numbers order) (length defs)

-- each number is defined, each gate of the order is a number, and there is room for the lines
pub record PutPlacesReady (defs numbers order places : List ℕ) : Type 0 where
  pub few : length defs ≤ 2048
  pub room : length defs ≤ length places
  pub paired : length numbers ≡ length defs
  pub numbers_below : Below numbers (length defs)
  pub each : (x : ℕ) → x < length defs → elem numbers x ≡ true
  pub gates : length order ≤ length defs
  pub gates_below : Below order (length defs)

-- and memory for the definition of each number
pub record PutPlacesInReady (defs numbers order def places : List ℕ) : Type 0 where
  pub fits : PutPlacesReady defs numbers order places
  pub for_defs : length def ≡ length defs

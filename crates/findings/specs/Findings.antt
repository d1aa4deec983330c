-- What is wrong with a kept list: of four things the first that holds, at its lowest place; where none holds, the list is sound.
-- Assumes nothing.
use Rattle.std.specs.Prelude.{Bool, Option, not, ◌&&◌, List, ℕ, ltb, get_or, set}
use Rattle.ground.specs.Choose.{choose}
use Rattle.ground.specs.Below.{any_below, first_not, first_failing}
use Rattle.answers.specs.Area.{Numbers, success}
use Rattle.tables.specs.Entries.{Entries}
use Rattle.needs.specs.Needs.{lost, lost_pair, meets, kept}
use Rattle.findings.specs.declared.Finding.{Finding}
use Rattle.findings.specs.declared.Finding.TheVariants.{Sound, BadMark, LostFault, LostPair, SparePattern}

-- ---- the four things

-- a mark other than 0 or 1
abbrev pub bad_mark : List ℕ → ℕ → Bool
bad_mark m k = ltb 1 (get_or m k 0)

-- a lost pair, by its lower fault and its higher one
unfoldable pub pair_lost : Entries → ℕ → List ℕ → ℕ → ℕ → Bool
pair_lost E P m f g = ltb f g && lost_pair E P (kept m) f g

-- a kept pattern without which the others still meet every need
unfoldable pub spare : Entries → ℕ → ℕ → List ℕ → ℕ → Bool
spare E F P m p = kept m p && meets E F P (kept (set m p 0))

-- ---- the first that holds

-- the lowest place below n at which the test holds, or n
abbrev pub first_where : ℕ → (ℕ → Bool) → ℕ
first_where n t = first_not n (λ k. not (t k))

-- that place, if there is one
abbrev pub place_where : ℕ → (ℕ → Bool) → Option ℕ
place_where n t = first_failing n (λ k. not (t k))

-- what is found at that place; where the test holds at none, what comes next
abbrev pub firstly : ℕ → (ℕ → Bool) → (ℕ → Finding) → Finding → Finding
firstly n t found next = choose (any_below n t) (found (first_where n t)) next

-- of F faults, P patterns and the marks m of another tool
unfoldable pub finding_of : Entries → ℕ → ℕ → List ℕ → Finding
finding_of E F P m =
    firstly P (bad_mark m) BadMark
    (firstly F (lost E P (kept m)) LostFault
    (firstly F (λ f. any_below F (pair_lost E P m f)) (λ f. LostPair f (first_where F (pair_lost E P m f)))
    (firstly P (spare E F P m) SparePattern
    Sound)))

-- ---- in numbers: which of them, and its place or places

abbrev pub finding_numbers : Finding → Numbers
finding_numbers Sound = success 0 0 0
finding_numbers (BadMark k) = success 1 k 0
finding_numbers (LostFault f) = success 2 f 0
finding_numbers (LostPair f g) = success 3 f g
finding_numbers (SparePattern p) = success 4 p 0

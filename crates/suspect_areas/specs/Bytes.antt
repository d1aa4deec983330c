-- A state as bytes: four numbers of eight little-endian bytes each, which are the counts, the size of their table and how many remain, and then the marks.
-- Assumes nothing.
use Rattle.std.specs.Prelude.{◌≡◌, Bool, not, ◌&&◌, List, ◌++◌, ℕ, ◌*◌, eqb, length, get_or, drop}
use Rattle.ground.specs.Below.{any_below}
use Rattle.little.specs.Little.{pair_at}
use Rattle.answers.specs.Area.{Four, area_of}
use Rattle.suspects.specs.declared.Suspects.{Suspects}
use Rattle.suspects.specs.State.{opened_ok, Opened}

abbrev pub numbers_of : Suspects → Four
numbers_of s = record { first = s.faults; second = s.patterns; third = s.faults * s.patterns; fourth = s.remaining }

unfoldable pub bytes_of : Suspects → List ℕ
bytes_of s = area_of (numbers_of s) ++ s.marks

-- the state that bytes say. Its numbers are small, and have all but their two lowest bytes 0
unfoldable pub state_in : List ℕ → Suspects
state_in a = record { marks = drop 32 a; faults = pair_at a 0; patterns = pair_at a 8; remaining = pair_at a 24 }

-- a begins with the bytes b: none of these is another in a
abbrev pub differs : List ℕ → List ℕ → ℕ → Bool
differs a b i = not (eqb (get_or a i 0) (get_or b i 0))

abbrev pub begins_with : List ℕ → List ℕ → Bool
begins_with a b = not (any_below (length b) (differs a b))

-- 288 bytes are those of an opened state: as a test, and in words
unfoldable pub held_ok : List ℕ → Bool
held_ok a = eqb (length a) 288 && (opened_ok (state_in a) && begins_with a (area_of (numbers_of (state_in a))))

pub record Held (a : List ℕ) : Type 0 where
  pub state : Suspects
  pub opened : Opened state
  pub marks : length state.marks ≡ 256
  pub bytes : a ≡ bytes_of state

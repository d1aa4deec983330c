-- What the functions of the counts owe each other and their callers; no reader of the promises needs it. A pattern is counted in or, where `into` is false, out.
-- Assumes nothing.
use Rattle.std.specs.Prelude.{◌≡◌, Bool, ◌&&◌, ◌||◌, List, ℕ, ◌+◌, ◌-◌, ◌*◌, ◌%◌, ◌≤◌, ◌<◌, eqb, leb, length, get_or}
use Rattle.std.specs.Int.Bits.{bit_or}
use Rattle.ground.specs.Choose.{choose, one}
use Rattle.ground.specs.Below.{any_below}

-- ---- counting

-- the count b is a with x counted in, or out
abbrev pub Counts : Bool → ℕ → ℕ → ℕ → Type 0
Counts into x a b = choose into b a ≡ (choose into a b + x) % 256

-- so at each cell: one where the test holds
pub record CellsDone (into : Bool) (h : ℕ → Bool) (old new : List ℕ) : Type 0 where
  pub cell : (k : ℕ) → Counts into (one (h k)) (get_or old k 0) (get_or new k 0)

pub record RowRoom (c : List ℕ) (at : ℕ) (t : List ℕ) (from n : ℕ) : Type 0 where
  pub cells : at + n ≤ length c
  pub entries : from + n ≤ length t

pub record CellsRoom (c t : List ℕ) (from n : ℕ) : Type 0 where
  pub few : n ≤ 256
  pub cells : 256 * n + n ≤ length c
  pub entries : from + n ≤ length t

-- the first n faults are seen where the pattern fails them
pub record SeeDone (t : List ℕ) (from n : ℕ) (old new : List ℕ) : Type 0 where
  pub fault : (f : ℕ) → f < n → get_or new f 0 ≡ bit_or (get_or old f 0) (one (eqb (get_or t (from + f) 0) 1))

-- ---- the only one of its kind

-- notes of n faults: each is 1 or 0
pub record Notes (s : List ℕ) (n : ℕ) : Type 0 where
  pub room : n ≤ length s
  pub bit : (f : ℕ) → f < n → get_or s f 0 ≤ 1

-- one pattern is counted, the fault is detected, and the pattern itself counts there
unfoldable pub sole_of : ℕ → ℕ → ℕ → ℕ → Bool
sole_of count seen entry want = eqb count 1 && (eqb seen 1 && eqb entry want)

abbrev pub sole_in : List ℕ → List ℕ → ℕ → List ℕ → ℕ → ℕ → ℕ → Bool
sole_in c s at t from want f = sole_of (get_or c (at + f) 0) (get_or s f 0) (get_or t (from + f) 0) want

-- at some pair of a detected fault g with one before it
unfoldable pub sole_at : List ℕ → List ℕ → List ℕ → ℕ → ℕ → Bool
sole_at c s t from g =
    eqb (get_or s g 0) 1 && (leb (get_or t (from + g) 0) 1 && any_below g (sole_in c s (256 * g) t from (1 - get_or t (from + g) 0)))

-- at some fault or some pair
unfoldable pub needed_of : List ℕ → List ℕ → List ℕ → ℕ → ℕ → Bool
needed_of c s t from n = any_below n (sole_in c s (256 * n) t from 1) || any_below n (sole_at c s t from)

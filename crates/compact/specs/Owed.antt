-- What the functions of the compactor owe each other; no reader of the promises needs it.
-- Assumes nothing.
use Rattle.std.specs.Prelude.{◌≡◌, true, List, ℕ, ◌<◌, length}
use Rattle.tables.specs.Entries.{entries_of}
use Rattle.needs.specs.Needs.{whole, kept, turn}
use Rattle.needs.specs.Words.{Meets}
use Rattle.counts.specs.Counted.{Counted, Seen}

pub record TurnRoom (m : List ℕ) (P p : ℕ) : Type 0 where
  pub marks : length m ≡ P
  pub below : p < P

-- before the turns of the first k patterns: the counts are those of the set, which meets every need and has the first k
pub record TurnReady (t : List ℕ) (F P k : ℕ) (m c s : List ℕ) : Type 0 where
  pub counted : Counted t F P (kept m) c
  pub seen : Seen t F P whole s
  pub enough : Meets (entries_of F t) F P (kept m)
  pub in_set : (q : ℕ) → q < k → kept m q ≡ true

-- the turn of pattern p
pub record TurnDone (t : List ℕ) (F P p : ℕ) (m m' c' s : List ℕ) : Type 0 where
  pub marks : m' ≡ turn (entries_of F t) F P m p
  pub ready : TurnReady t F P p m' c' s

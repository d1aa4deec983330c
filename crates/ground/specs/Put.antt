-- Writing into lent memory, one piece after the other.
-- Assumes nothing.
use Rattle.std.specs.Prelude.{◌≡◌, List, ◌++◌, ℕ, ◌+◌, length, drop}
use Rattle.std.proofs.lemmas.List.Edits.{sets}

-- v stands from `at` on, nothing else has changed, and `next` is the place after it
pub record Put {A : Type 0} (w w' : List A) (at : ℕ) (v : List A) (next : ℕ) : Type 0 where
  pub written : w' ≡ sets w at v
  pub next_is : next ≡ at + length v

-- v at the front, and then what stood there
abbrev pub laid_on : {A : Type 0} → List A → List A → List A
laid_on w v = v ++ drop (length v) w

-- Where none is counted that looks at a level, none does.
-- Assumes nothing.
use mathlib.Core.Path.{◌≡◌}
use mathlib.Core.Logic.{◌⊎◌, inl, inr}
use mathlib.Core.List.{List}
use Prim.Native.Nat.{ℕ, ◌≤◌, ◌<◌}
use native.Mathlib.Omega.{arith}
use lib.ListN.{length, get_or}
use borrow.Author.Tests.{le-leb}
use Rattle.ground.specs.Below.{count_below}
use Rattle.ground.proofs.Tests.{either}
use Rattle.ground.proofs.Counting.{count_below_lem}
use Rattle.rounds.specs.Owed.{looks_at}

pub none_looks : (ms : List ℕ) (level : ℕ) → count_below (length ms) (looks_at ms level) ≡ 0 → (j : ℕ) → j < length ms → get_or ms j 0 < level
none_looks ms level e j l = go (either (get_or ms j 0) level)
  where
    go : (get_or ms j 0 < level) ⊎ (level ≤ get_or ms j 0) → get_or ms j 0 < level
    go (inl h) = h
    go (inr h) = absurd (omega (arith, count_below_lem (looks_at ms level) j (length ms) l (le-leb level (get_or ms j 0) h)))

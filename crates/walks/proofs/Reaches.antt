-- Reaches that become outcomes, one after the other.
-- Assumes nothing.
use mathlib.Core.Path.{◌≡◌, ◌∙◌}
use mathlib.Core.List.{List}
use Prim.Native.Nat.{ℕ, ◌+◌, ◌≤◌, ◌<◌}
use native.Mathlib.Decide.{ℕ_discrete}
use native.Mathlib.Omega.{arith}
use lib.ListN.{length, get_or, set, length-set}
use lib.Seq.{get_or-set_same, get_or-set_other}
use Rattle.standings.specs.Owed.{outcome_by}
use Rattle.walks.specs.Owed.{BecameOutcomes}

-- the first i reaches have become outcomes, and the others stand
pub record SoFar (ms₀ ms : List ℕ) (i : ℕ) : Type 0 where
  pub long : length ms ≡ length ms₀
  pub ended : BecameOutcomes ms₀ ms i
  pub rest : (j : ℕ) → i ≤ j → get_or ms j 0 ≡ get_or ms₀ j 0

pub ended_more : {ms₀ ms : List ℕ} {i x : ℕ} → SoFar ms₀ ms i → i < length ms → x ≡ outcome_by (get_or ms i 0) → SoFar ms₀ (set ms i x) (i + 1)
ended_more {ms₀} {ms} {i} {x} p h e = record {
  long = length-set ms i x ∙ p.long;
  ended = λ j l. go j l (ℕ_discrete j i);
  rest = λ j l. get_or-set_other ms i j x 0 (λ q. absurd (omega arith)) ∙ p.rest j (omega arith);
}
  where
    go : (j : ℕ) → j < i + 1 → Dec (j ≡ i) → get_or (set ms i x) j 0 ≡ outcome_by (get_or ms₀ j 0)
    go j l (yes q) = rw (q, get_or-set_same ms i x 0 h, e, p.rest i (omega arith))
    go j l (no d) = get_or-set_other ms i j x 0 d ∙ p.ended j (omega arith)

-- What a node of head lines says, in the request's words: of the circuit itself, in which the head lines are given and the other free lines are X.
-- Assumes nothing.
use Rattle.std.specs.Prelude.{◌≡◌, ◌⊎◌, true, List, ℕ, ◌<◌, get_or}
use Rattle.circuit.specs.Record.{out_at}
use Rattle.lists.specs.declared.Fault.{Fault}
use Rattle.simulate.specs.Simulate.{unforced, stuck_at, values_to}
use Rattle.entry.specs.Words.{Differ, Chosen}
use Rattle.sides.specs.Look.{Settled}
use Rattle.heads.specs.Heads.{bound, head}
use Rattle.cut.specs.Given.{given}

-- the values of all lines where the head lines have what the node s says and other free lines are X, without the fault and with it; p is any pattern
abbrev pub good_given : List ℕ → List ℕ → ℕ → List ℕ → List ℕ
good_given c p n s = values_to (given c n s unforced) c p n

abbrev pub faulty_given : Fault → List ℕ → List ℕ → ℕ → List ℕ → List ℕ
faulty_given fault c p n s = values_to (given c n s (stuck_at fault)) c p n

-- an output that is looked at: of a bound line or of a head line
pub record LookedAt (c : List ℕ) (n k : ℕ) : Type 0 where
  pub inside : k < n
  pub output : out_at c k ≡ 1
  pub kept : (bound c n k ≡ true) ⊎ (head c n k ≡ true)

-- at line k this holds of the good and the faulty value
abbrev pub At : (ℕ → ℕ → Type 0) → Fault → List ℕ → List ℕ → ℕ → List ℕ → ℕ → Type 0
At P fault c p n s k = P (get_or (good_given c p n s) k 0) (get_or (faulty_given fault c p n s) k 0)

-- fail if at some of them both values are known and differ; left if at each both are known and equal; otherwise neither
abbrev pub HeadLook : Fault → List ℕ → List ℕ → ℕ → List ℕ → ℕ → Type 0
HeadLook fault c p n s e = Chosen ((k : ℕ) × LookedAt c n k × At Differ fault c p n s k) ((k : ℕ) → LookedAt c n k → At Settled fault c p n s k) e

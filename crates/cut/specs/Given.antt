-- What a node of head lines is in the circuit itself: a forcing. A head line shows what the node says, every other free line X, a bound line its own value.
-- The simulation of the cut circuit is proved to be the simulation of the circuit under it, whatever the inputs.
-- Assumes nothing.
use Rattle.std.specs.Prelude.{List, ℕ, eqb, get_or}
use Rattle.ground.specs.Choose.{choose}
use Rattle.gates.specs.Gate.{X}
use Rattle.simulate.specs.Simulate.{Forcing}
use Rattle.heads.specs.Heads.{bound, head, heads_before}

-- the value of a line, where its gate gives v
unfoldable pub shown : List ℕ → ℕ → List ℕ → ℕ → ℕ → ℕ
shown c n s line v = choose (bound c n line) v (choose (head c n line) (get_or s (heads_before c n line) 0) X)

-- with what else is forced on top: nothing, or a fault
unfoldable pub given : List ℕ → ℕ → List ℕ → Forcing → Forcing
given c n s f line site v = f line site (choose (eqb site 0) (shown c n s line v) v)

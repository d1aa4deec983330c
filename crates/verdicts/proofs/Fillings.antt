-- Fillings of a node: they fill one of its sides, every vector fills the start, and every node has one.
-- Assumes nothing.
use mathlib.Core.Path.{◌≡◌}
use Prim.Native.Nat.{ℕ, ◌<◌}
use native.Mathlib.Decide.{ℕ_discrete}
use native.Mathlib.Omega.{arith}
use lib.Dec.{eqb}
use lib.ListN.{length, get_or, set, length-set, length-replicate, get_or-replicate}
use lib.Seq.{get_or-set_same, get_or-set_other}
use borrow.Author.Tests.{ne_eqb}
use Rattle.ground.specs.Choose.{one}
use Rattle.simulate.specs.Boolean.{Vector}
use Rattle.simulate.specs.Vectors.{Fills}
use Rattle.nodes.specs.Node.{Node, start}

-- a filling of a node fills one of its sides
pub fills_side : (s : Node) (at : ℕ) (x : Vector) (v : ℕ) → one (x at) ≡ v → Fills s x → Fills (set s at v) x
fills_side s at x v e f i l k = go (ℕ_discrete i at) k
  where
    inside : i < length s
    inside = rw length-set at l

    go : Dec (i ≡ at) → get_or (set s at v) i 0 < 2 → one (x i) ≡ get_or (set s at v) i 0
    go (yes q) k = rw (q, get_or-set_same s at v 0 (rw q at inside)) e
    go (no d) k = rw (get_or-set_other s at i v 0 d) (f i inside (rw (get_or-set_other s at i v 0 d) at k))

-- every vector fills the start
pub fills_start : (n : ℕ) (x : Vector) → Fills (start n) x
fills_start n x i l k = absurd (omega (arith, get_or-replicate {A = ℕ} n i 2 0 (rw length-replicate at l)))

-- and every node has a filling
pub filling : Node → Vector
filling s i = eqb (get_or s i 0) 1

pub filling_fills : (s : Node) → Fills s (filling s)
unfolding filling
filling_fills s i l k = go (ℕ_discrete (get_or s i 0) 1)
  where
    go : Dec (get_or s i 0 ≡ 1) → one (eqb (get_or s i 0) 1) ≡ get_or s i 0
    go (yes e) = rw e
    go (no d) = rw (ne_eqb _ 1 d) (omega arith)

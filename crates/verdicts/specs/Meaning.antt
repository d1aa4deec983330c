-- What a node must say of its fillings for the verdicts to mean what they say.
-- Assumes nothing.
use Rattle.std.specs.Prelude.{◌≡◌, ℕ}
use Rattle.simulate.specs.Boolean.{Vector}
use Rattle.simulate.specs.Vectors.{Fills}
use Rattle.nodes.specs.Node.{Node, IsNode}
use Rattle.nodes.specs.Order.{Look}
use Rattle.nodes.specs.Walk.{Looks}

-- where it says fail, every filling detects; where it is left, none does
pub record FaithfulLook (n : ℕ) (look : Look) (Detected : Vector → Type 0) : Type 0 where
  pub looks : Looks n look
  pub fail : (s : Node) → IsNode n s → look s ≡ 1 → (x : Vector) → Fills s x → Detected x
  pub left : (s : Node) → IsNode n s → look s ≡ 0 → (x : Vector) → Fills s x → Detected x → ⊥

-- Lent buffers of their exact size: refusal 10.
-- Assumes nothing.
use Rattle.std.specs.Prelude.{◌≡◌, List, [], ◌∷◌, ℕ, eqb}
use Rattle.answers.specs.declared.Reason.TheVariants.{BufferSize}
use Rattle.answers.specs.Rules.{Rule}
use Rattle.answers.specs.Rules.Rule.{whole}

-- a buffer that was lent has its size
abbrev pub exact : ℕ → ℕ → Rule
exact size lent = whole BufferSize (eqb lent size) (lent ≡ size) 0

-- two buffers, each of its own
unfoldable pub lent_rules : ℕ → ℕ → ℕ → ℕ → List Rule
lent_rules size lent size₂ lent₂ = exact size lent ∷ exact size₂ lent₂ ∷ []

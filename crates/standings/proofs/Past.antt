-- Nodes one after the other: a search that has ended, and one list after another.
-- Assumes nothing.
use mathlib.Core.Path.{◌≡◌, refl, ap}
use mathlib.Core.List.{List, [], ◌∷◌, ◌++◌}
use Prim.Native.Nat.{ℕ}
use borrow.Author.Tests.{ne_eqb}
use Rattle.nodes.specs.Node.{Node}
use Rattle.nodes.specs.Order.{Look}
use Rattle.standings.specs.Owed.{Standing, past}

-- the same standing with an equal count
pub counted : (o : ℕ) (t : List ℕ) {j k : ℕ} → j ≡ k → ◌≡◌ {A = Standing} (o, j, t) (o, k, t)
counted o t e = ap (λ (x : ℕ). (o, x, t)) e

module _ (look : Look) (b : ℕ) where
  pub closed : (l : List Node) (o k : ℕ) (t : List ℕ) → (o ≡ 1 → ⊥) → past look b l (o, k, t) ≡ (o, k, t)
  unfolding past
  closed [] o k t d = refl
  closed (s ∷ l) o k t d = rw (ne_eqb o 1 d) (closed l o k t d)

  pub past_append : (l m : List Node) (st : Standing) → past look b (l ++ m) st ≡ past look b m (past look b l st)
  unfolding past
  past_append [] m st = refl
  past_append (s ∷ l) m st = past_append l m _

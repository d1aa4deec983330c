-- What a verdict says of the nodes looked at, and that what it says determines it.
-- Assumes nothing.
use mathlib.Core.Path.{◌≡◌, refl, sym, ap, subst}
use mathlib.Core.Bool.{Bool, true, false}
use mathlib.Core.List.{List}
use Prim.Native.Nat.{ℕ, ◌≤◌, ◌<◌}
use native.Mathlib.Omega.{arith}
use lib.Dec.{leb}
use lib.ListN.{length}
use borrow.Author.Tests.{le-leb, lt-leb, leb-true, leb-false}
use Rattle.ground.specs.Choose.{choose}
use Rattle.nodes.specs.declared.Verdict.{Verdict}
use Rattle.nodes.specs.declared.Verdict.TheVariants.{Test, Redundant, GivenUp}
use Rattle.nodes.specs.Node.{Node}
use Rattle.nodes.specs.Order.{Look, upto, found}
use Rattle.nodes.specs.Budget.{verdict_in, nodes_of}

-- k nodes were looked at, within the budget b, and whether one fails
pub record VerdictCounted (look : Look) (b : ℕ) (l : List Node) (fails : Bool) (k : ℕ) : Type 0 where
  pub most : k ≤ b
  pub fails-is : found look l ≡ fails
  pub count : k ≡ length (upto look l)

-- a count stays within a larger budget
pub counted_more : {look : Look} {b b' : ℕ} {l : List Node} {fails : Bool} {k : ℕ} → b ≤ b' → VerdictCounted look b l fails k → VerdictCounted look b' l fails k
counted_more h p = record { most = omega (arith, p.most); fails-is = p.fails-is; count = p.count }

-- the budget b is spent, and there are more nodes to look at
pub record Spent (look : Look) (b : ℕ) (l : List Node) (k : ℕ) : Type 0 where
  pub all : k ≡ b
  pub more : b < length (upto look l)

abbrev pub VerdictSays : Look → ℕ → List Node → Verdict → Type 0
VerdictSays look b l (Test k) = VerdictCounted look b l true k
VerdictSays look b l (Redundant k) = VerdictCounted look b l false k
VerdictSays look b l (GivenUp k) = Spent look b l k

module _ (look : Look) (b : ℕ) (l : List Node) where
  says_all : VerdictSays look b l (verdict_in look b l)
  unfolding verdict_in
  says_all = go (leb (length (upto look l)) b) (found look l) refl refl
    where
      go : (t f : Bool)
          → leb (length (upto look l)) b ≡ t
          → found look l ≡ f
          → VerdictSays look b l (choose t (choose f (Test (length (upto look l))) (Redundant (length (upto look l)))) (GivenUp b))
      go true true p q = record { most = leb-true _ _ p; fails-is = q; count = refl }
      go true false p q = record { most = leb-true _ _ p; fails-is = q; count = refl }
      go false f p q = record { all = refl; more = leb-false _ _ p }

  pub says : {r : Verdict} → r ≡ verdict_in look b l → VerdictSays look b l r
  says e = subst (VerdictSays look b l) (sym e) says_all

  pub said : (r : Verdict) → VerdictSays look b l r → r ≡ verdict_in look b l
  unfolding verdict_in
  said (Test k) p = simp (le-leb (length (upto look l)) b (omega (arith, p.most, p.count)), p.fails-is) (ap Test p.count)
  said (Redundant k) p = simp (le-leb (length (upto look l)) b (omega (arith, p.most, p.count)), p.fails-is) (ap Redundant p.count)
  said (GivenUp k) p = simp (lt-leb (length (upto look l)) b p.more) (ap GivenUp p.all)

  -- the count is within the budget
  pub within : (r : Verdict) → VerdictSays look b l r → nodes_of r ≤ b
  within (Test k) p = p.most
  within (Redundant k) p = p.most
  within (GivenUp k) p = omega (arith, p.all)

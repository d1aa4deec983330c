-- The order of the gates, always the earliest in the text whose sources are placed, and refusal 16: a gate that can't be placed.
-- Gates are numbered in the text's order from 0. `a` and `b` have each gate's two sources (of a gate with one source, twice the same):
-- a number below the number of gates is that gate, any other an input, which is placed.
-- Assumes nothing.
use Rattle.std.specs.Prelude.{◌≡◌, ◌⊎◌, Bool, true, false, not, ◌&&◌, ◌||◌, List, [], ◌∷◌, ◌++◌, ℕ, zero, suc, ◌<◌, ltb, leb, length, get_or}
use Rattle.ground.specs.Choose.{choose}
use Rattle.ground.specs.Below.{first_not}
use Rattle.ground.specs.Lists.{elem}
use Rattle.answers.specs.Rules.{Rule, each}
use Rattle.answers.specs.declared.Reason.TheVariants.{BenchCycle}

-- a source is there: an input, or a gate that is placed
unfoldable pub there : ℕ → List ℕ → ℕ → Bool
there gates p s = leb gates s || elem p s

-- a gate is not placed yet, and both its sources are there
unfoldable pub ready : List ℕ → List ℕ → List ℕ → ℕ → Bool
ready a b p g = not (elem p g) && (there (length a) p (get_or a g 0) && there (length a) p (get_or b g 0))

-- ---- as a function

-- the earliest gate that is ready where p is placed, or the number of gates
unfoldable pub earliest : List ℕ → List ℕ → List ℕ → ℕ
earliest a b p = first_not (length a) (λ g. not (ready a b p g))

-- p is placed, and then as many more as can be, but at most n
unfoldable pub order_from : List ℕ → List ℕ → List ℕ → ℕ → List ℕ
order_from a b p zero = p
order_from a b p (suc n) = choose (ltb (earliest a b p) (length a)) (order_from a b (p ++ (earliest a b p ∷ [])) n) p

unfoldable pub order_of : List ℕ → List ℕ → List ℕ
order_of a b = order_from a b [] (length a)

-- ---- in words

pub record Earliest (a b p : List ℕ) (g : ℕ) : Type 0 where
  pub inside : g < length a
  pub is_ready : ready a b p g ≡ true
  pub none_before : (h : ℕ) → h < g → ready a b p h ≡ false

-- p is placed, in this order
pub data Order (a b : List ℕ) : List ℕ → Type 0 where
  nothing : Order a b []
  next : {q : List ℕ} (p : List ℕ) (g : ℕ) → Order a b p → Earliest a b p g → q ≡ p ++ (g ∷ []) → Order a b q

-- p is placed, and nothing more can be
pub record Placed (a b p : List ℕ) : Type 0 where
  pub steps : Order a b p
  pub ended : (g : ℕ) → g < length a → ready a b p g ≡ false

-- gate g can be placed
pub record Places (a b : List ℕ) (g : ℕ) : Type 0 where
  pub order : List ℕ
  pub steps : Order a b order
  pub placed : elem order g ≡ true

unfoldable pub cycle_rules : List ℕ → List ℕ → List Rule
cycle_rules a b = each BenchCycle (length a) (elem (order_of a b)) (Places a b) ∷ []

-- ---- cycles

-- s is a gate and a source of the gate g
pub record Source (a b : List ℕ) (g s : ℕ) : Type 0 where
  pub gate : s < length a
  pub is : (get_or a g 0 ≡ s) ⊎ (get_or b g 0 ≡ s)

-- from a gate to a source of it, to a source of that, and so on
pub data Way (a b : List ℕ) : ℕ → ℕ → Type 0 where
  last : {g s : ℕ} → Source a b g s → Way a b g s
  then : {g s t : ℕ} → Source a b g s → Way a b s t → Way a b g t

-- some gate depends on itself
abbrev pub Cycle : List ℕ → List ℕ → Type 0
Cycle a b = (g : ℕ) × (g < length a) × Way a b g g

-- What the functions of the order owe each other and their callers; no reader of the promises needs it.
-- Assumes nothing.
use Rattle.std.specs.Prelude.{◌≡◌, ◌⊎◌, Bool, ◌&&◌, ◌||◌, List, ℕ, ◌≤◌, ◌<◌, eqb, leb, length, get_or, take, replicate, Ok}
use Rattle.ground.specs.Choose.{one}
use Rattle.ground.specs.Lists.{elem}
use Rattle.answers.specs.Rules.{refusal, Ruling}
use Rattle.order.specs.Order.{Placed, order_of, cycle_rules}

-- by marks at the gates that are placed

unfoldable pub there_by : List ℕ → ℕ → Bool
there_by placed s = leb (length placed) s || eqb (get_or placed s 0) 1

unfoldable pub ready_by : List ℕ → List ℕ → List ℕ → ℕ → Bool
ready_by a b placed g = eqb (get_or placed g 0) 0 && (there_by placed (get_or a g 0) && there_by placed (get_or b g 0))

-- no gate before reader[g] has g as a source
abbrev pub Back : List ℕ → List ℕ → List ℕ → Type 0
Back a b reader = (h g : ℕ) → h < length a → (get_or a h 0 ≡ g) ⊎ (get_or b h 0 ≡ g) → g < length a → get_or reader g 0 ≤ h

-- nothing is placed yet
pub record PlaceReady (a b reader placed order : List ℕ) : Type 0 where
  pub few : length a < 65536
  pub second : length b ≡ length a
  pub readers : length reader ≡ length a
  pub back : Back a b reader
  pub unmarked : placed ≡ replicate (length a) 0
  pub room : length order ≡ length a

-- n gates in order, and a mark at each that is placed
pub record PlaceDone (a b placed order : List ℕ) (n : ℕ) : Type 0 where
  pub size : n ≤ length a
  pub is : Placed a b (take n order)
  pub marks : (g : ℕ) → g < length a → get_or placed g 0 ≡ one (elem (take n order) g)

-- the sources of at most 8,192 gates, and room for their order
pub record ArrangeRoom (a b order : List ℕ) : Type 0 where
  pub few : length a ≤ 8192
  pub second : length b ≡ length a
  pub room : length order ≡ length a

-- and memory for the first readers and for the marks, with no mark yet
pub record ArrangeInReady (a b reader placed order : List ℕ) : Type 0 where
  pub gates : ArrangeRoom a b order
  pub readers : length reader ≡ length a
  pub unmarked : placed ≡ replicate (length a) 0

-- what refusal 16 says, and the order where all gates are placed
pub record ArrangeDone (a b order : List ℕ) (r : Ruling) : Type 0 where
  pub ruling : r ≡ refusal (cycle_rules a b)
  pub order_is : r ≡ Ok tt → order ≡ order_of a b

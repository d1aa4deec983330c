-- Regular grammars over symbols, which are numbers: what texts a grammar has.
-- Assumes nothing.
use Rattle.std.specs.Prelude.{◌≡◌, ◌⊎◌, Bool, false, ◌||◌, List, [], ◌∷◌, ◌++◌, ℕ, T, eqb}

-- nothing, the empty text, one symbol out of a list, one after the other, one or the other, any number of times
pub data Re : Type 0 where
  none eps : Re
  one : List ℕ → Re
  seq alt : Re → Re → Re
  star : Re → Re

unfoldable pub has : List ℕ → ℕ → Bool
has [] c = false
has (x ∷ l) c = eqb x c || has l c

-- a text that is cut into any number of pieces, each of which M has
pub data Many (M : List ℕ → Type 0) : List ℕ → Type 0 where
  stop : Many M []
  more : {w : List ℕ} (u v : List ℕ) → w ≡ u ++ v → M u → Many M v → Many M w

-- the grammar has the text
unfoldable pub Has : Re → List ℕ → Type 0
Has none w = ⊥
Has eps w = w ≡ []
Has (one s) w = (c : ℕ) × T (has s c) × (w ≡ c ∷ [])
Has (seq r s) w = (u : List ℕ) × (v : List ℕ) × (w ≡ u ++ v) × Has r u × Has s v
Has (alt r s) w = Has r w ⊎ Has s w
Has (star r) w = Many (Has r) w

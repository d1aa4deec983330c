-- An element of a mapped list, whatever is read outside.
-- Assumes nothing.
use mathlib.Core.Path.{◌≡◌, refl}
use mathlib.Core.List.{List, [], ◌∷◌, map}
use Prim.Native.Nat.{ℕ, zero, suc, ◌<◌}
use native.Mathlib.Nat.{not-suc-le-zero, le_of_suc-le-suc}
use lib.ListN.{length, get_or}

pub map_at : {A B : Type 0} (f : A → B) (l : List A) (n : ℕ) (d : B) (e : A) → n < length l → get_or (map f l) n d ≡ f (get_or l n e)
map_at f [] n d e h = absurd (not-suc-le-zero h)
map_at f (x ∷ l) zero d e h = refl
map_at f (x ∷ l) (suc n) d e h = map_at f l n d e (le_of_suc-le-suc h)

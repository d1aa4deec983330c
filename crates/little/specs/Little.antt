-- Numbers as little-endian bytes, and back.
-- Assumes nothing.
use Rattle.std.specs.Prelude.{List, [], ◌∷◌, ℕ, zero, suc, ◌+◌, ◌*◌, ◌/◌, ◌%◌, get_or}

-- the n lowest bytes of w, the lowest first
unfoldable pub le : ℕ → ℕ → List ℕ
le zero w = []
le (suc n) w = (w % 256) ∷ le n (w / 256)

-- the number in the two bytes from `at` on
unfoldable pub pair_at : List ℕ → ℕ → ℕ
pair_at s at = get_or s at 0 + 256 * get_or s (at + 1) 0

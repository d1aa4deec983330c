-- Tests over a list.
-- Assumes nothing.
use Rattle.std.specs.Prelude.{Bool, true, false, ◌&&◌, ◌||◌, List, [], ◌∷◌}

-- some element passes the test
abbrev pub any_of {ℓ} : {A : Type ℓ} → (A → Bool) → List A → Bool
any_of t [] = false
any_of t (x ∷ l) = t x || any_of t l

-- each element passes the test
abbrev pub all_of {ℓ} : {A : Type ℓ} → (A → Bool) → List A → Bool
all_of t [] = true
all_of t (x ∷ l) = t x && all_of t l

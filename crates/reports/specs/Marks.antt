-- The marks of faults: 256 bytes, one for each fault that there is, 1 where it remains, and 0 from there on.
-- Assumes nothing.
use Rattle.std.specs.Prelude.{Bool, List, ◌++◌, ℕ, ◌-◌, eqb, ltb, get_or, replicate}
use Rattle.ground.specs.Choose.{one}
use Rattle.ground.specs.Lists.{table}

-- fault f is marked
abbrev pub marked : List ℕ → ℕ → Bool
marked m f = eqb (get_or m f 0) 1

-- of F faults, those of K are marked
unfoldable pub marks_of : ℕ → (ℕ → Bool) → List ℕ
marks_of F K = table (λ f. one (K f)) F ++ replicate (256 - F) 0

-- byte f is no mark: above 1 for a fault, above 0 where there is none
unfoldable pub no_mark : ℕ → List ℕ → ℕ → Bool
no_mark F m f = ltb (one (ltb f F)) (get_or m f 0)

-- What the functions over marks owe their callers; no reader of the promises needs it.
-- Assumes nothing.
use Rattle.std.specs.Prelude.{List, ℕ, eqb, length, get_or}
use Rattle.ground.specs.Choose.{choose}
use Rattle.ground.specs.Lists.{table}

-- the marks m without those whose entry in the row is the bad one
abbrev pub narrowed : List ℕ → List ℕ → ℕ → List ℕ
narrowed m row bad = table (λ f. choose (eqb (get_or row f 0) bad) 0 (get_or m f 0)) (length row)

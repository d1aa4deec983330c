-- The text of the dictionary program, as bytes: 10 is the end of a line, 32 a space.
-- Assumes nothing.
use Rattle.std.specs.Prelude.{List, [], ◌∷◌, ◌++◌, map, ℕ, ◌*◌, eqb, get_or, take, drop}
use Rattle.ground.specs.Choose.{choose}
use Rattle.ground.specs.Lists.{gather}
use Rattle.decimals.specs.Digits.{decimal}

-- P pass, F fail, U unknown
unfoldable pub letter_of : ℕ → ℕ
letter_of entry = choose (eqb entry 0) 80 (choose (eqb entry 1) 70 85)

-- K kept, D dropped
unfoldable pub mark_of : ℕ → ℕ
mark_of mark = choose (eqb mark 1) 75 68

-- number, space, K or D, space, one letter a fault
abbrev pub line_text : ℕ → ℕ → List ℕ → List ℕ
line_text p mark row = decimal p ++ ((32 ∷ mark_of mark ∷ 32 ∷ []) ++ (map letter_of row ++ (10 ∷ [])))

-- the lines of the first p patterns, of a table with so many faults
abbrev pub lines_to : ℕ → List ℕ → List ℕ → ℕ → List ℕ
lines_to faults table marks p = gather (λ k. line_text k (get_or marks k 0) (take faults (drop (k * faults) table))) p

-- `refused`, number, place, with single spaces
abbrev pub refused_word : List ℕ
refused_word = 114 ∷ 101 ∷ 102 ∷ 117 ∷ 115 ∷ 101 ∷ 100 ∷ 32 ∷ []

abbrev pub refused_text : ℕ → ℕ → List ℕ
refused_text number place = refused_word ++ (decimal number ++ ((32 ∷ []) ++ (decimal place ++ (10 ∷ []))))

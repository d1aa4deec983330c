-- Marks of the lines in memory, one byte a line.
-- Assumes nothing.
use Rattle.std.specs.Prelude.{◌≡◌, List, ℕ, ◌<◌, length, get_or}
use Rattle.ground.specs.Choose.{choose, one}
use Rattle.heads.specs.Heads.{bound, head}

-- 2 bound, 1 head line, 0 another free line
unfoldable pub line_mark : List ℕ → ℕ → ℕ → ℕ
line_mark c n k = choose (bound c n k) 2 (one (head c n k))

pub record Marked (c : List ℕ) (n : ℕ) (marks : List ℕ) : Type 0 where
  pub long : length marks ≡ n
  pub are : (k : ℕ) → k < n → get_or marks k 0 ≡ line_mark c n k

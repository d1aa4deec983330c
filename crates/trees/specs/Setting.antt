-- Setting the trees of free lines, from the highest line down and without going back: as a fold over the lines, and line by line. In an accepted circuit the fold
-- does what is said line by line, and that leaves one value for each free line.
-- Assumes nothing.
use Rattle.std.specs.Prelude.{◌≡◌, true, false, List, ℕ, zero, suc, ◌≤◌, ◌<◌, get_or, set}
use Rattle.ground.specs.Choose.{choose}
use Rattle.ground.specs.Lists.{collect, table}
use Rattle.gates.specs.Gate.{X, pins_of}
use Rattle.circuit.specs.Record.{kind_at, pin_at, is_input}
use Rattle.reads.specs.Reads.{reads_of}
use Rattle.heads.specs.Heads.{bound, head, heads_before}
use Rattle.trees.specs.Need.{need_of}

-- ---- as a fold: w has a value for each of n lines, s is a node, one value for each head line

-- the sources at the pins 1 to p of line k, which is to have the value v
unfoldable pub put_pins : List ℕ → ℕ → ℕ → ℕ → List ℕ → List ℕ
put_pins c k v zero w = w
put_pins c k v (suc p) w = set (put_pins c k v p w) (pin_at c k (suc p)) (need_of (kind_at c k) v (suc p))

-- a free line puts values on its sources
unfoldable pub set_line : List ℕ → ℕ → ℕ → List ℕ → List ℕ
set_line c n k w = choose (bound c n k) w (put_pins c k (get_or w k 0) (pins_of (kind_at c k)) w)

-- the lines below k, the highest first
unfoldable pub set_below : List ℕ → ℕ → ℕ → List ℕ → List ℕ
set_below c n zero w = w
set_below c n (suc k) w = set_below c n k (set_line c n k w)

-- at the start a head line has what the node says, every other line X
unfoldable pub head_value : List ℕ → ℕ → List ℕ → ℕ → ℕ
head_value c n s k = choose (head c n k) (get_or s (heads_before c n k) 0) X

unfoldable pub set_lines : List ℕ → ℕ → List ℕ → List ℕ
set_lines c n s = set_below c n n (table (head_value c n s) n)

-- and of these values the inputs', in line order: the test
unfoldable pub set_trees : List ℕ → ℕ → List ℕ → List ℕ
set_trees c n s = collect (is_input c) (λ k. get_or (set_lines c n s) k 0) n

-- ---- line by line

pub record Set (c : List ℕ) (n : ℕ) (s w : List ℕ) : Type 0 where
  -- a head line has what the node says
  pub heads : (k : ℕ) → k < n → head c n k ≡ true → get_or w k 0 ≡ get_or s (heads_before c n k) 0
  -- a source of a free line has what that line needs there
  pub sources : (k p : ℕ) → k < n → bound c n k ≡ false → 1 ≤ p → p ≤ pins_of (kind_at c k) → get_or w (pin_at c k p) 0 ≡ need_of (kind_at c k) (get_or w k 0) p
  -- a line that is no head line and that nothing reads is X
  pub unread : (k : ℕ) → k < n → head c n k ≡ false → reads_of c n k ≡ 0 → get_or w k 0 ≡ X

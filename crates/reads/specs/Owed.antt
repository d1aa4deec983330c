-- What the functions that count readings owe each other and their callers; no reader of the promises needs it.
-- Assumes nothing.
use Rattle.std.specs.Prelude.{◌≡◌, List, ℕ, ◌+◌, ◌*◌, ◌≤◌, ◌<◌, eqb, leb, length, get_or}
use Rattle.ground.specs.Choose.{choose, one}
use Rattle.circuit.specs.Record.{pin_at}
use Rattle.reads.specs.Reads.{reads_by}

-- so many lines; all sources, also those that a kind lacks, are among them
pub record Sourced (c : List ℕ) (n : ℕ) : Type 0 where
  pub size : length c ≡ 8 * n
  pub inside : (k s : ℕ) → k < n → 1 ≤ s → s ≤ 3 → pin_at c k s < n

-- a number as far as 2
unfoldable pub up_to_two : ℕ → ℕ
up_to_two x = choose (leb 2 x) 2 x

-- where read counts x as far as 2, r counts one more
abbrev pub OneMore : ℕ → ℕ → Type 0
OneMore read r = (x : ℕ) → read ≡ up_to_two x → r ≡ up_to_two (x + 1)

-- a byte for each of n lines: how often the line is read, which is g of it, as far as 2
pub record ReadsCounted (n : ℕ) (g : ℕ → ℕ) (bytes : List ℕ) : Type 0 where
  pub long : length bytes ≡ n
  pub are : (k : ℕ) → k < n → get_or bytes k 0 ≡ up_to_two (g k)

-- whatever was counted before, so much more of each line is counted now
abbrev pub CountsMore : ℕ → (ℕ → ℕ) → List ℕ → List ℕ → Type 0
CountsMore n more bytes bytes' = (g : ℕ → ℕ) → ReadsCounted n g bytes → ReadsCounted n (λ k. g k + more k) bytes'

-- what pin s of line j adds to line k
abbrev pub pin_adds : List ℕ → ℕ → ℕ → ℕ → ℕ
pin_adds c j s k = one (eqb (pin_at c j s) k)

-- what all its pins add
abbrev pub line_adds : List ℕ → ℕ → ℕ → ℕ
line_adds c j k = reads_by c k j

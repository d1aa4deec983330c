-- The same in words. They are proved equivalent.
-- Assumes nothing.
use Rattle.std.specs.Prelude.{◌≡◌, List, ℕ, ◌≤◌, ◌<◌}
use Rattle.gates.specs.Gate.{pins_of}
use Rattle.circuit.specs.Record.{kind_at, pin_at}

-- line j has a pin s, which reads line k
pub record PinReads (c : List ℕ) (n k j s : ℕ) : Type 0 where
  pub line : j < n
  pub some : 1 ≤ s
  pub has : s ≤ pins_of (kind_at c j)
  pub is : pin_at c j s ≡ k

-- two pins, of two lines or of one, read line k
pub record Branches (c : List ℕ) (n k : ℕ) : Type 0 where
  pub j : ℕ
  pub s : ℕ
  pub i : ℕ
  pub t : ℕ
  pub one : PinReads c n k j s
  pub other : PinReads c n k i t
  pub apart : j ≡ i → s ≡ t → ⊥

-- How often a line is read. Pins are counted, so a gate that reads a line with two pins counts twice; being an output is no reading.
-- Assumes nothing.
use Rattle.std.specs.Prelude.{Bool, List, ℕ, zero, suc, ◌+◌, eqb, leb}
use Rattle.ground.specs.Below.{count_below}
use Rattle.gates.specs.Gate.{pins_of}
use Rattle.circuit.specs.Record.{kind_at, pin_at}

-- f 0 + f 1 + .., of the numbers below n
unfoldable pub sum_below : ℕ → (ℕ → ℕ) → ℕ
sum_below zero f = 0
sum_below (suc n) f = sum_below n f + f n

-- with how many of its pins 1 to s line j reads line k
abbrev pub pins_reading : List ℕ → ℕ → ℕ → ℕ → ℕ
pins_reading c k j s = count_below s (λ i. eqb (pin_at c j (suc i)) k)

-- with how many of the pins that it has
unfoldable pub reads_by : List ℕ → ℕ → ℕ → ℕ
reads_by c k j = pins_reading c k j (pins_of (kind_at c j))

-- how many pins of a circuit of n lines read line k
unfoldable pub reads_of : List ℕ → ℕ → ℕ → ℕ
reads_of c n k = sum_below n (reads_by c k)

-- line k branches: two or more pins read it
abbrev pub branches : List ℕ → ℕ → ℕ → Bool
branches c n k = leb 2 (reads_of c n k)

-- The chances of the lines by the rules of paper 001, on FAN, over fractions and in its order; then those of the kinds that it has no rules for. Whatever
-- satisfies them is one half to the power of `exponents`, and that satisfies them.
-- Assumes nothing.
use Rattle.std.specs.Prelude.{◌≡◌, Bool, true, false, List, ℕ, ◌<◌}
use Rattle.circuit.specs.Record.{kind_at}
use Rattle.reads.specs.Words.{PinReads, Branches}
use Rattle.exponents.specs.Fraction.{Fraction, Equal, unity, product, halved, larger, floored}

-- chance k v is that of value v at line k, and at k s v what pin s of line k sees of it, in a circuit of n lines
pub record Measures (c : List ℕ) (n : ℕ) (chance : ℕ → Bool → Fraction) (at : ℕ → ℕ → Bool → Fraction) : Type 0 where
  -- an input is set for certain
  pub input : (k : ℕ) → k < n → kind_at c k ≡ 0 → (v : Bool) → Equal (chance k v) unity
  -- AND multiplies for 1 and takes the larger for 0
  pub and_1 : (k : ℕ) → k < n → kind_at c k ≡ 3 → Equal (chance k true) (floored (product (at k 1 true) (at k 2 true)))
  pub and_0 : (k : ℕ) → k < n → kind_at c k ≡ 3 → Equal (chance k false) (floored (larger (at k 1 false) (at k 2 false)))
  -- OR takes the larger for 1 and multiplies for 0
  pub or_1 : (k : ℕ) → k < n → kind_at c k ≡ 5 → Equal (chance k true) (floored (larger (at k 1 true) (at k 2 true)))
  pub or_0 : (k : ℕ) → k < n → kind_at c k ≡ 5 → Equal (chance k false) (floored (product (at k 1 false) (at k 2 false)))
  -- NOT exchanges them
  pub not_1 : (k : ℕ) → k < n → kind_at c k ≡ 2 → Equal (chance k true) (floored (at k 1 false))
  pub not_0 : (k : ℕ) → k < n → kind_at c k ≡ 2 → Equal (chance k false) (floored (at k 1 true))
  -- a pin takes half of a line that two or more pins read, and all of any other
  pub branch : (k s j : ℕ) → PinReads c n j k s → Branches c n j → (v : Bool) → Equal (at k s v) (halved (chance j v))
  pub alone : (k s j : ℕ) → PinReads c n j k s → (Branches c n j → ⊥) → (v : Bool) → Equal (at k s v) (chance j v)
  -- a buffer changes nothing; NAND and NOR exchange what AND and OR have
  pub buffer : (k : ℕ) → k < n → kind_at c k ≡ 1 → (v : Bool) → Equal (chance k v) (floored (at k 1 v))
  pub nand_1 : (k : ℕ) → k < n → kind_at c k ≡ 4 → Equal (chance k true) (floored (larger (at k 1 false) (at k 2 false)))
  pub nand_0 : (k : ℕ) → k < n → kind_at c k ≡ 4 → Equal (chance k false) (floored (product (at k 1 true) (at k 2 true)))
  pub nor_1 : (k : ℕ) → k < n → kind_at c k ≡ 6 → Equal (chance k true) (floored (product (at k 1 false) (at k 2 false)))
  pub nor_0 : (k : ℕ) → k < n → kind_at c k ≡ 6 → Equal (chance k false) (floored (larger (at k 1 true) (at k 2 true)))
  -- XOR takes the larger of the products for different values and of those for equal ones; XNOR exchanges them
  pub xor_1 : (k : ℕ) → k < n → kind_at c k ≡ 7 → Equal (chance k true) (floored (larger (product (at k 1 false) (at k 2 true)) (product (at k 1 true) (at k 2 false))))
  pub xor_0 : (k : ℕ) → k < n → kind_at c k ≡ 7 → Equal (chance k false) (floored (larger (product (at k 1 false) (at k 2 false)) (product (at k 1 true) (at k 2 true))))
  pub xnor_1 : (k : ℕ) → k < n → kind_at c k ≡ 8 → Equal (chance k true) (floored (larger (product (at k 1 false) (at k 2 false)) (product (at k 1 true) (at k 2 true))))
  pub xnor_0 : (k : ℕ) → k < n → kind_at c k ≡ 8 → Equal (chance k false) (floored (larger (product (at k 1 false) (at k 2 true)) (product (at k 1 true) (at k 2 false))))
  -- a selector takes the larger over both select values: with the first source at 0, with the second at 1
  pub selector : (k : ℕ) → k < n → kind_at c k ≡ 9 → (v : Bool) → Equal (chance k v) (floored (larger (product (at k 1 v) (at k 3 false)) (product (at k 2 v) (at k 3 true))))

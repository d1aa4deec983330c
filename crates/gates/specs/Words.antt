-- The gate rule in words. The tables say the same: `in_words_lem` in proofs/Words.antt.
-- Assumes nothing.
use Rattle.std.specs.Prelude.{◌&&◌, ◌||◌, ℕ, eqb}
use Rattle.ground.specs.Choose.{choose}
use Rattle.gates.specs.Gate.{known, X, three_of}

-- NOT X is X
unfoldable pub not_of : ℕ → ℕ
not_of a = choose (eqb a 0) 1 (choose (eqb a 1) 0 X)

-- AND with a 0 is 0, of 1 and 1 is 1, otherwise X
unfoldable pub and_of : ℕ → ℕ → ℕ
and_of a b = choose (eqb a 0 || eqb b 0) 0 (choose (eqb a 1 && eqb b 1) 1 X)

-- OR with a 1 is 1, of 0 and 0 is 0, otherwise X
unfoldable pub or_of : ℕ → ℕ → ℕ
or_of a b = choose (eqb a 1 || eqb b 1) 1 (choose (eqb a 0 && eqb b 0) 0 X)

-- XOR with an X is X, otherwise 0 of equal values and 1 of different ones
unfoldable pub xor_of : ℕ → ℕ → ℕ
xor_of a b = choose (known a && known b) (choose (eqb a b) 0 1) X

-- at 0 the select gives the first source, at 1 the second, at X their value if both are known and equal, otherwise X
unfoldable pub select_of : ℕ → ℕ → ℕ → ℕ
select_of a b s = choose (eqb s 0) (three_of a) (choose (eqb s 1) (three_of b) (choose (known a && (known b && eqb a b)) a X))

-- a buffer gives what it sees; NAND, NOR and XNOR are the negations; any other kind gives X
unfoldable pub rule_of : ℕ → (ℕ → ℕ) → ℕ
rule_of kind v =
    choose (eqb kind 1) (three_of (v 1))
    (choose (eqb kind 2) (not_of (v 1))
    (choose (eqb kind 3) (and_of (v 1) (v 2))
    (choose (eqb kind 4) (not_of (and_of (v 1) (v 2)))
    (choose (eqb kind 5) (or_of (v 1) (v 2))
    (choose (eqb kind 6) (not_of (or_of (v 1) (v 2)))
    (choose (eqb kind 7) (xor_of (v 1) (v 2))
    (choose (eqb kind 8) (not_of (xor_of (v 1) (v 2)))
    (choose (eqb kind 9) (select_of (v 1) (v 2) (v 3))
    X))))))))

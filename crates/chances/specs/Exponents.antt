-- How hard a gate is to set, in whole numbers. A chance is one half to the power of an exponent: where chances multiply exponents add, and the larger of two
-- chances has the smaller exponent.
-- Assumes nothing.
use Rattle.std.specs.Prelude.{Bool, true, false, not, ℕ, ◌+◌, min, eqb}
use Rattle.ground.specs.Choose.{choose}

-- the exponent for each value, 1 and 0
abbrev pub Exponents : Type 0
Exponents = Bool → ℕ

-- chance 1 for both values
abbrev pub sure : Exponents
sure v = 0

-- NOT
abbrev pub exchange : Exponents → Exponents
exchange e v = e (not v)

-- AND is 1 if both pins are, and 0 by either
abbrev pub and_exponents : Exponents → Exponents → Exponents
and_exponents e f true = e true + f true
and_exponents e f false = min (e false) (f false)

-- OR is 1 by either pin, and 0 if both are
abbrev pub or_exponents : Exponents → Exponents → Exponents
or_exponents e f true = min (e true) (f true)
or_exponents e f false = e false + f false

-- XOR is 1 with 0 and 1 at its pins or with 1 and 0, and 0 with 0 and 0 or with 1 and 1
abbrev pub xor_exponents : Exponents → Exponents → Exponents
xor_exponents e f v = min (e false + f v) (e true + f (not v))

-- a selector has a value by its first source where its select s is 0, and by its second where it is 1
abbrev pub select_exponents : Exponents → Exponents → Exponents → Exponents
select_exponents e f s v = min (e v + s false) (f v + s true)

-- by its kind, where e s are the exponents at pin s; an input, and what has no rule, needs nothing
unfoldable pub gate_exponents : ℕ → (ℕ → Exponents) → Exponents
gate_exponents kind e =
    choose (eqb kind 1) (e 1)
    (choose (eqb kind 2) (exchange (e 1))
    (choose (eqb kind 3) (and_exponents (e 1) (e 2))
    (choose (eqb kind 4) (exchange (and_exponents (e 1) (e 2)))
    (choose (eqb kind 5) (or_exponents (e 1) (e 2))
    (choose (eqb kind 6) (exchange (or_exponents (e 1) (e 2)))
    (choose (eqb kind 7) (xor_exponents (e 1) (e 2))
    (choose (eqb kind 8) (exchange (xor_exponents (e 1) (e 2)))
    (choose (eqb kind 9) (select_exponents (e 1) (e 2) (e 3))
    sure))))))))

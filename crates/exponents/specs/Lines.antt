-- How hard each line of a circuit of n lines is to set, in whole numbers: its chance of a value is one half to the power of its exponent for that value.
-- Assumes nothing.
use Rattle.std.specs.Prelude.{List, ℕ, ◌+◌, min, get_or}
use Rattle.ground.specs.Choose.{one}
use Rattle.ground.specs.Lists.{grow}
use Rattle.circuit.specs.Record.{kind_at, pin_at}
use Rattle.reads.specs.Reads.{branches}
use Rattle.halves.specs.Half.{floor_exponent}
use Rattle.chances.specs.Exponents.{Exponents, sure, gate_exponents}

-- what a pin sees of line j, whose exponents are e: one more where the line branches
abbrev pub seen : List ℕ → ℕ → ℕ → Exponents → Exponents
seen c n j e v = e v + one (branches c n j)

-- line k, where es are the exponents of the lines below it: what its gate makes of what its pins see, and at most 500
unfoldable pub exponents_in : List ℕ → ℕ → List Exponents → ℕ → Exponents
exponents_in c n es k v = min floor_exponent (gate_exponents (kind_at c k) (λ s. seen c n (pin_at c k s) (get_or es (pin_at c k s) sure)) v)

unfoldable pub exponents : List ℕ → ℕ → ℕ → Exponents
exponents c n k = get_or (grow (exponents_in c n) n) k sure

-- at pin s of line k
abbrev pub pin_exponents : List ℕ → ℕ → ℕ → ℕ → Exponents
pin_exponents c n k s = seen c n (pin_at c k s) (exponents c n (pin_at c k s))

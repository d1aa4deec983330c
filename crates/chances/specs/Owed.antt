-- What the functions of the chances owe each other and their callers; no reader of the promises needs it.
-- Assumes nothing.
use Rattle.std.specs.Prelude.{◌≡◌, Bool, true, false, ℕ, ◌+◌, ◌≤◌, min}
use Rattle.halves.specs.Half.{half, floor_exponent}
use Rattle.chances.specs.declared.Chances.{Chances}
use Rattle.chances.specs.Exponents.{Exponents, exchange, gate_exponents}

-- these are the chances of the exponents
pub record Are (p : Chances) (e : Exponents) : Type 0 where
  pub one : p.one ≡ half (e true)
  pub zero : p.zero ≡ half (e false)

-- and they are seen at a pin: half of a line's chances at least
pub record Seen (p : Chances) (e : Exponents) : Type 0 where
  pub are : Are p e
  pub few : (v : Bool) → e v ≤ floor_exponent + 1

abbrev pub Exchanged : Chances → Chances → Type 0
Exchanged p r = (e : Exponents) → Are p e → Are r (exchange e)

abbrev pub FromTwo : (Exponents → Exponents → Exponents) → Chances → Chances → Chances → Type 0
FromTwo rule p q r = (e f : Exponents) → Seen p e → Seen q f → Are r (rule e f)

abbrev pub FromThree : (Exponents → Exponents → Exponents → Exponents) → Chances → Chances → Chances → Chances → Type 0
FromThree rule p q s r = (e f g : Exponents) → Seen p e → Seen q f → Seen s g → Are r (rule e f g)

abbrev pub GateDone : ℕ → Chances → Chances → Chances → Type 0
GateDone kind p q r = (e : ℕ → Exponents) → Seen p (e 1) → Seen q (e 2) → Are r (gate_exponents kind e)

abbrev pub Floored : Chances → Chances → Type 0
Floored p r = (e : Exponents) → Are p e → Are r (λ v. min floor_exponent (e v))

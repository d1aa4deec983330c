-- What a pin of a gate sees, where the chances of the lines below are there.
-- Assumes nothing.
use mathlib.Core.Path.{◌≡◌, ap, ◌∙◌}
use mathlib.Core.Bool.{Bool, true, false}
use mathlib.Core.List.{List}
use Prim.Native.Nat.{ℕ, ◌+◌, ◌≤◌, ◌<◌}
use native.Mathlib.Omega.{arith}
use lib.Dec.{eqb}
use lib.ListN.{length, get_or}
use lib.Ieee.{Float, nan}
use Rattle.ground.specs.Choose.{one}
use Rattle.ground.proofs.Tests.{one_most}
use Rattle.circuit.specs.Record.{pin_at, Inside}
use Rattle.reads.specs.Reads.{branches}
use Rattle.reads.proofs.Counted.{counted_branches}
use Rattle.halves.specs.Half.{half, least}
use Rattle.chances.specs.declared.Chances.{Chances}
use Rattle.chances.specs.Owed.{Seen}
use Rattle.exponents.specs.Lines.{exponents, pin_exponents}
use Rattle.exponents.proofs.Lines.{few}
use Rattle.exponents.proofs.Exact.{pin_few}
use Rattle.control.specs.Owed.{GateReady}

-- the record of line k
pub here : {c reads : List ℕ} {ones zeros : List Float} {k : ℕ} → GateReady c reads ones zeros k → Inside c k
here p = record { inside = omega (arith, p.ready.sourced.size, p.ready.line) }

module _ {c reads : List ℕ} {ones zeros : List Float} {k s j : ℕ} (p : GateReady c reads ones zeros k) (some : 1 ≤ s) (has : s ≤ 3) (is : j ≡ pin_at c k s) where
  pub lower : j < k
  lower = rw is (p.ready.well.lower k p.ready.line p.gate s some has)

  pub inside : j < length ones
  inside = omega (arith, lower, p.ready.line)

  pub inside_zeros : j < length zeros
  inside_zeros = omega (arith, inside, p.ready.zeros_long)

  pub inside_reads : j < length reads
  inside_reads = omega (arith, inside, p.ready.counted.long)

  -- the byte of the line's readings says whether it branches, and with it what the pin takes
  pub taken_is : {taken : Float} → taken ≡ half (one (eqb (get_or reads j 0) 2)) → taken ≡ half (one (branches c (length ones) j))
  taken_is e = e ∙ ap (λ (t : Bool). half (one t)) (counted_branches c p.ready.counted j inside)

  -- a product with that is what the pin sees
  pub seen_so : {taken : Float} {r : Chances}
      → taken ≡ half (one (branches c (length ones) j))
      → ((x y : ℕ) → get_or ones j nan ≡ half x → taken ≡ half y → x + y ≤ least → r.one ≡ half (x + y))
      → ((x y : ℕ) → get_or zeros j nan ≡ half x → taken ≡ half y → x + y ≤ least → r.zero ≡ half (x + y))
      → Seen r (pin_exponents c (length ones) k s)
  seen_so t one-is zero_is = record {
    are = record {
      one = rw (← is) (one-is _ _ (p.ready.ones_are j lower) t (room true));
      zero = rw (← is) (zero_is _ _ (p.ready.zeros_are j lower) t (room false));
    };
    few = pin_few p.ready.well k s p.ready.line p.gate some has;
  }
    where
      room : (v : Bool) → exponents c (length ones) j v + one (branches c (length ones) j) ≤ least
      room v = omega (arith, few p.ready.well j inside v, one_most (branches c (length ones) j))

-- Whatever satisfies the rules of the words is one half to the power of `exponents`, and that satisfies them.
-- Assumes nothing.
use mathlib.Core.Path.{refl}
use mathlib.Core.Bool.{Bool, true, false, not}
use mathlib.Core.List.{List}
use Prim.Native.Nat.{ℕ, ◌+◌, ◌≤◌, ◌<◌}
use native.Mathlib.Nat.{add-zero}
use native.Mathlib.Omega.{arith}
use Rattle.ground.specs.Choose.{one}
use Rattle.ground.proofs.Below.{each_below}
use Rattle.gates.specs.Gate.{last_kind, pins_of}
use Rattle.gates.proofs.Laws.{AtPins}
use Rattle.circuit.specs.Record.{kind_at, pin_at}
use Rattle.circuit.specs.Formed.{WellFormed}
use Rattle.reads.specs.Reads.{branches}
use Rattle.reads.specs.Words.{PinReads}
use Rattle.heads.proofs.Pins.{pin_lower}
use Rattle.chances.proofs.ByKind.{each_kind}
use Rattle.chances.specs.Exponents.{Exponents, and_exponents, or_exponents, xor_exponents, select_exponents, gate_exponents}
use Rattle.exponents.specs.Lines.{exponents, pin_exponents}
use Rattle.exponents.specs.Fraction.{Fraction, Equal, power, floored}
use Rattle.exponents.specs.Words.{Measures}
use Rattle.exponents.proofs.Lines.{line_law}
use Rattle.exponents.proofs.Fraction.{Is, power-is, same-is, both_are, product_is, larger-is, halved_is, floored-is}
use Rattle.exponents.proofs.Rules.{Fractions, and_rule, or_rule, xor_rule, selector_rule, rule_of, sight, obeys, rules_of}

-- ---- the rules of powers of one half

-- p v is one half to the power of e v
abbrev Powers : Fractions → Exponents → Type 0
Powers p e = (v : Bool) → Is (p v) (e v)

module _ {p q : Fractions} {e f : Exponents} (a : Powers p e) (b : Powers q f) where
  and_powers : Powers (and_rule p q) (and_exponents e f)
  and_powers true = product_is (a true) (b true)
  and_powers false = larger-is (a false) (b false)

  or_powers : Powers (or_rule p q) (or_exponents e f)
  or_powers true = larger-is (a true) (b true)
  or_powers false = product_is (a false) (b false)

  xor_powers : Powers (xor_rule p q) (xor_exponents e f)
  xor_powers v = larger-is (product_is (a false) (b v)) (product_is (a true) (b (not v)))

  selector_powers : {s : Fractions} {g : Exponents} → Powers s g → Powers (selector_rule p q s) (select_exponents e f g)
  selector_powers c v = larger-is (product_is (a v) (c false)) (product_is (b v) (c true))

module _ (p : ℕ → Fractions) (e : ℕ → Exponents) where
  -- at the first t pins
  abbrev Pins : ℕ → Type 0
  Pins t = (s : ℕ) → 1 ≤ s → s ≤ t → Powers (p s) (e s)

  rule_powers : (kind : ℕ) → kind ≤ last_kind → AtPins kind (λ s. Powers (p s) (e s)) → Powers (rule_of kind p) (gate_exponents kind e)
  unfolding rule_of gate_exponents pins_of
  rule_powers =
      each_kind (λ kind. Pins (pins_of kind) → Powers (rule_of kind p) (gate_exponents kind e))
      (λ a v. power-is 0)
      one-pin
      (λ a v. one-pin a (not v))
      (both-pins and_powers)
      (λ a v. both-pins and_powers a (not v))
      (both-pins or_powers)
      (λ a v. both-pins or_powers a (not v))
      (both-pins xor_powers)
      (λ a v. both-pins xor_powers a (not v))
      (λ a. selector_powers (a 1 (omega arith) (omega arith)) (a 2 (omega arith) (omega arith)) (a 3 (omega arith) (omega arith)))
    where
      one-pin : Pins 1 → Powers (p 1) (e 1)
      one-pin a = a 1 (omega arith) (omega arith)

      both-pins : {r : Fractions} {g : Exponents} → (Powers (p 1) (e 1) → Powers (p 2) (e 2) → Powers r g) → Pins 2 → Powers r g
      both-pins rule a = rule (a 1 (omega arith) (omega arith)) (a 2 (omega arith) (omega arith))

sight-is : (t : Bool) {p : Fraction} {x : ℕ} → Is p x → Is (sight t p) (x + one t)
sight-is true a = halved_is a
sight-is false {p} {x} a = rw (add-zero x) a

module _ {c : List ℕ} {m n : ℕ} (well : WellFormed c m n) where
  line-is : (k : ℕ) (p : ℕ → Fractions) → k < n → AtPins (kind_at c k) (λ s. Powers (p s) (pin_exponents c n k s))
      → (v : Bool) → Is (floored (rule_of (kind_at c k) p v)) (exponents c n k v)
  line-is k p l pins v = rw (line_law well k l v) (floored-is (rule_powers p (pin_exponents c n k) (kind_at c k) (well.kinds k l) pins v))

  pin-is : {k s j : ℕ} → PinReads c n j k s → (v : Bool) {p : Fraction} → Is p (exponents c n j v)
      → Is (sight (branches c n j) p) (pin_exponents c n k s v)
  pin-is {k} {s} {j} r v a = rw r.is (sight-is (branches c n j) a)

  -- ---- what satisfies the rules

  -- a pin reads a lower line
  read_lower : {k s j : ℕ} → PinReads c n j k s → j < k
  read_lower {k} {s} r = rw (← r.is) (pin_lower well k s r.line r.some r.has)

  module _ {chance : ℕ → Fractions} {at : ℕ → ℕ → Fractions} (rules : Measures c n chance at) where
    pin_powers : {k s j : ℕ} → PinReads c n j k s → Powers (chance j) (exponents c n j) → Powers (at k s) (pin_exponents c n k s)
    pin_powers {k} {s} {j} r a v = same-is (at k s v) _ ((obeys well rules).pin k s j r v) (pin-is r v (a v))

    line_powers : (k : ℕ) → k < n → Powers (chance k) (exponents c n k)
    line_powers = each_below (λ k. Powers (chance k) (exponents c n k)) n line
      where
        line : (k : ℕ) → k < n → ((j : ℕ) → j < k → Powers (chance j) (exponents c n j)) → Powers (chance k) (exponents c n k)
        line k l below v = same-is (chance k v) _ ((obeys well rules).line k l v) (line-is k (at k) l pins v)
          where
            pins : AtPins (kind_at c k) (λ s. Powers (at k s) (pin_exponents c n k s))
            pins s a b =
                let r : PinReads c n (pin_at c k s) k s = record { line = l; some = a; has = b; is = refl } in
                pin_powers r (below (pin_at c k s) (read_lower r))

    pub measured : (k : ℕ) → k < n → (v : Bool) → Equal (chance k v) (power (exponents c n k v))
    measured k l v = (line_powers k l v).is

    pub measured_pin : (k s j : ℕ) → PinReads c n j k s → (v : Bool) → Equal (at k s v) (power (pin_exponents c n k s v))
    measured_pin k s j r v = (pin_powers r (line_powers j (omega (arith, read_lower r, r.line))) v).is

  -- ---- and the powers satisfy them

  pub measures : Measures c n (λ k v. power (exponents c n k v)) (λ k s v. power (pin_exponents c n k s v))
  measures =
      rules_of
      (record {
        line = λ k l v. both_are (power-is _) (line-is k (λ s w. power (pin_exponents c n k s w)) l (λ s a b w. power-is _) v);
        pin = λ k s j r v. both_are (power-is _) (pin-is r v (power-is _));
      })

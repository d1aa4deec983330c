-- The pins of a line: where some pin reads a line that passes a test.
-- Assumes nothing.
use mathlib.Core.Path.{◌≡◌, refl}
use mathlib.Core.Bool.{Bool, true}
use mathlib.Core.List.{List}
use Prim.Native.Nat.{ℕ, suc, ◌-◌, ◌≤◌, ◌<◌}
use native.Mathlib.Omega.{arith}
use lib.Dec.{eqb}
use borrow.Author.Tests.{eq-eqb, eqb-true}
use Rattle.ground.proofs.Below.{any_some, some_any}
use Rattle.gates.specs.Gate.{pins_of}
use Rattle.gates.proofs.Laws.{few_pins}
use Rattle.circuit.specs.Record.{kind_at, pin_at}
use Rattle.circuit.specs.Formed.{WellFormed}
use Rattle.reads.specs.Words.{PinReads}
use Rattle.heads.specs.Heads.{some_pin}

-- a pin of line k that reads a line which passes the test
pub record PinAt (c : List ℕ) (k : ℕ) (t : ℕ → Bool) : Type 0 where
  pub pin : ℕ
  pub some : 1 ≤ pin
  pub has : pin ≤ pins_of (kind_at c k)
  pub passes : t (pin_at c k pin) ≡ true

module _ (c : List ℕ) (k : ℕ) (t : ℕ → Bool) where
  pub some-pin : PinAt c k t → some_pin c k t ≡ true
  unfolding some_pin
  some-pin w =
      let q : suc (w.pin - 1) ≡ w.pin = omega (arith, w.some) in
      any_some (pins_of (kind_at c k)) (λ x. t (pin_at c k (suc x))) (w.pin - 1) (omega (arith, w.some, w.has)) (rw q w.passes)

  pub pin-some : some_pin c k t ≡ true → PinAt c k t
  unfolding some_pin
  pin-some e =
      let w = some_any (pins_of (kind_at c k)) (λ x. t (pin_at c k (suc x))) e in
      record { pin = suc w.0; some = omega arith; has = w.1; passes = w.2 }

-- ---- pins that read line k

pub reads_it : {c : List ℕ} {n k j s : ℕ} → PinReads c n k j s → some_pin c j (λ i. eqb i k) ≡ true
reads_it {c} {n} {k} {j} r = some-pin c j (λ i. eqb i k) (record { pin = _; some = r.some; has = r.has; passes = eq-eqb _ k r.is })

pub it_reads : (c : List ℕ) {n : ℕ} (k j : ℕ) → j < n → some_pin c j (λ i. eqb i k) ≡ true → (s : ℕ) × PinReads c n k j s
it_reads c k j l e =
    let w = pin-some c j (λ i. eqb i k) e in
    (w.pin, record { line = l; some = w.some; has = w.has; is = eqb-true _ k w.passes })

-- ---- of an accepted circuit

-- an input has none
pub has-pin : (kind s : ℕ) → 1 ≤ s → s ≤ pins_of kind → kind ≡ 0 → ⊥
unfolding pins_of
has-pin kind s a b e = omega (arith, rw e at b)

module _ {c : List ℕ} {m n : ℕ} (well : WellFormed c m n) (k s : ℕ) (l : k < n) (a : 1 ≤ s) (b : s ≤ pins_of (kind_at c k)) where
  pub pin_lower : pin_at c k s < k
  pin_lower = well.lower k l (has-pin (kind_at c k) s a b) s a (omega (arith, few_pins (kind_at c k)))

  pub reads : PinReads c n (pin_at c k s) k s
  reads = record { line = l; some = a; has = b; is = refl }

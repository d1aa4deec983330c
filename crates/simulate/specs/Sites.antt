-- Where a fault is seen, in the paper's words.
-- Assumes nothing.
use Rattle.std.specs.Prelude.{◌≡◌, List, ℕ, ◌≤◌, ◌<◌, get_or}
use Rattle.gates.specs.Gate.{gate_of}
use Rattle.circuit.specs.Record.{kind_at, pin_at}
use Rattle.lists.specs.declared.Fault.{Fault}
use Rattle.simulate.specs.Simulate.{stuck_at}
use Rattle.simulate.specs.Work.{good_of, faulty_of}

-- the value of line k of n under the pattern p: without the fault, and with it
abbrev pub good_at : List ℕ → List ℕ → ℕ → ℕ → ℕ
good_at c p n k = get_or (good_of c p n) k 0

abbrev pub faulty_at : Fault → List ℕ → List ℕ → ℕ → ℕ → ℕ
faulty_at fault c p n k = get_or (faulty_of fault c p n) k 0

-- what pin s of line k sees in the faulty circuit
abbrev pub seen_at : Fault → List ℕ → List ℕ → ℕ → ℕ → ℕ → ℕ
seen_at fault c p n k s = stuck_at fault k s (faulty_at fault c p n (pin_at c k s))

-- the gate at line k gives what its kind gives of what its pins see
abbrev pub Gives : Fault → List ℕ → List ℕ → ℕ → ℕ → Type 0
Gives fault c p n k = (kind_at c k ≡ 0 → ⊥) → faulty_at fault c p n k ≡ gate_of (kind_at c k) (seen_at fault c p n k)

-- a fault on the line shows at the line itself, so at the output if it is one, and wherever the line is read
pub record OnLine (fault : Fault) (c p : List ℕ) (n : ℕ) : Type 0 where
  pub itself : faulty_at fault c p n fault.line ≡ fault.value
  pub read : (k s : ℕ) → 1 ≤ s → pin_at c k s ≡ fault.line → seen_at fault c p n k s ≡ fault.value
  pub others : (k : ℕ) → k < n → (k ≡ fault.line → ⊥) → Gives fault c p n k

-- a fault on a pin is seen by that gate alone: every other pin sees the value of its source, which below the gate is the good one
pub record OnPin (fault : Fault) (c p : List ℕ) (n : ℕ) : Type 0 where
  pub seen : seen_at fault c p n fault.line fault.site ≡ fault.value
  pub alone : (k s : ℕ) → (k ≡ fault.line → s ≡ fault.site → ⊥) → seen_at fault c p n k s ≡ faulty_at fault c p n (pin_at c k s)
  pub gates : (k : ℕ) → k < n → Gives fault c p n k
  pub below : (k : ℕ) → k < fault.line → faulty_at fault c p n k ≡ good_at c p n k

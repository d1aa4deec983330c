-- A fault whose record keeps its layout leaves the pins of inputs alone, as an input has none; so does the good circuit.
-- Assumes nothing.
use mathlib.Core.Path.{◌≡◌, refl, sym, ap, ◌∙◌}
use mathlib.Core.List.{List}
use Prim.Native.Nat.{ℕ, ◌≤◌}
use native.Mathlib.Omega.{arith}
use Rattle.ground.specs.Choose.{one}
use Rattle.ground.proofs.Tests.{one_same}
use Rattle.gates.specs.Gate.{pins_of}
use Rattle.circuit.specs.Record.{kind_at}
use Rattle.lists.specs.Faults.{FaultLayout, fault_line, fault_site, fault_at}
use Rattle.simulate.specs.Simulate.{Forcing, unforced, stuck_at}
use Rattle.simulate.specs.Boolean.{Truths, good, faulty}
use Rattle.simulate.proofs.Below.{stuck_off}
use Rattle.simulate.proofs.Alike.{Alike, faulty_alike}
use Rattle.clocked.proofs.Lines.{LeavesInputs}

pub unforced-leaves : (c : List ℕ) → LeavesInputs c unforced
unforced-leaves c m s v _ _ = refl

pub good-leaves : (c : List ℕ) → LeavesInputs c good
good-leaves c m s v _ _ = refl

-- truths that do the same as a forcing leave alone what it leaves alone
pub alike_leaves : (c : List ℕ) (f : Forcing) (t : Truths) → Alike f t → LeavesInputs c f → LeavesInputs c t
alike_leaves c f t alike leaves m s b input a = one_same (t m s b) b (sym (alike m s b) ∙ leaves m s (one b) input a)

module _ (c fs : List ℕ) (j : ℕ) (layout : FaultLayout c fs j) where
  off : (m s : ℕ) → kind_at c m ≡ 0 → 1 ≤ s → m ≡ fault_line fs j → s ≡ fault_site fs j → ⊥
  unfolding pins_of
  off m s input a line site =
      let none : pins_of (kind_at c (fault_line fs j)) ≡ 0 = ap pins_of (ap (kind_at c) (sym line) ∙ input) in
      omega (arith, layout.site)

  pub fault_leaves : LeavesInputs c (stuck_at (fault_at fs j))
  fault_leaves m s v input a = stuck_off (fault_at fs j) m s v (off m s input a)

  pub faulty-leaves : LeavesInputs c (faulty (fault_at fs j))
  faulty-leaves = alike_leaves c (stuck_at (fault_at fs j)) (faulty (fault_at fs j)) (faulty_alike (fault_at fs j) layout.value) fault_leaves

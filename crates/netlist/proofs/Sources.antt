-- The sources on a line: those of a gate stand on lower lines, a pin that the kind lacks has none.
-- Assumes nothing.
use mathlib.Core.Path.{◌≡◌, refl}
use mathlib.Core.Logic.{◌⊎◌, inl, inr, ⊎_elim}
use mathlib.Core.Bool.{Bool, true, false}
use Prim.Native.Nat.{ℕ, ◌+◌, ◌-◌, ◌≤◌, ◌<◌}
use native.Mathlib.Omega.{arith}
use lib.Dec.{eqb}
use lib.ListN.{get_or}
use borrow.Author.Tests.{le-leb}
use Rattle.ground.specs.Choose.{choose}
use Rattle.ground.proofs.Tests.{either}
use Rattle.ground.proofs.Lists.{index_in_lem}
use Rattle.gates.specs.Gate.{selector, pins_of}
use Rattle.order.specs.Order.{Source}
use Rattle.order.proofs.Says.{sources_before}
use Rattle.records.specs.Net.{Net, gates_of, net_size, pin_of, placed_of, net_line, number_on, net_kind, net_source}
use Rattle.records.proofs.Stands.{input_kind, gate_kind, source_lacks}
use Rattle.netlist.specs.Solved.{Right}
use Rattle.netlist.proofs.Numbers.{number-gate, line-input, line-gate, line_cases, order_long, order-gate}

module _ (net : Net) where
  -- ---- kinds

  pub kind_gate : (i : ℕ) → net_kind net (net.inputs + i) ≡ get_or net.kinds (get_or (placed_of net) i 0) 0
  kind_gate i = rw (number-gate net i) at (gate_kind net (net.inputs + i) (omega arith))

  -- ---- the source at a pin

  pub source_has : (k s : ℕ) → s ≤ pins_of (net_kind net k) → net_source net k s ≡ net_line net (pin_of net (number_on net k) s)
  unfolding net_source
  source_has k s l = rw (le-leb s (pins_of (net_kind net k)) l)

  -- a pin is one of the gate's two sources
  pin_cases : (P : ℕ → Type 0) (g s : ℕ) → P (get_or net.firsts g 0) → P (get_or net.seconds g 0) → P (pin_of net g s)
  unfolding pin_of
  pin_cases P g s a b = go (eqb s 1)
    where
      go : (t : Bool) → P (choose t (get_or net.firsts g 0) (get_or net.seconds g 0))
      go true = a
      go false = b

  module _ (r : Right net) where
    pub pin_inside : (g s : ℕ) → g < gates_of net → pin_of net g s < net_size net
    pin_inside g s l = pin_cases (λ x. x < net_size net) g s (r.firsts_inside g l) (r.seconds_inside g l)

    -- a source of the gate at position i is an input, or stands before it
    before : (i x : ℕ) → i < gates_of net → x < net_size net
        → (get_or net.firsts (get_or (placed_of net) i 0) 0 ≡ x) ⊎ (get_or net.seconds (get_or (placed_of net) i 0) 0 ≡ x)
        → net_line net x < net.inputs + i
    before i x l h e =
        ⊎_elim
        (λ gate.
        let source : Source net.firsts net.seconds (get_or (placed_of net) i 0) x = record { gate = gate; is = e } in
        let w = index_in_lem (placed_of net) i x (sources_before net.firsts net.seconds i x (omega (arith, order_long net r)) source) in
        rw (line-gate net x gate) (omega arith))
        (λ input.
        let j : gates_of net + (x - gates_of net) ≡ x = omega arith in
        let line : net_line net x ≡ x - gates_of net = rw j at (line-input net (x - gates_of net)) in
        omega (arith, line))
        (either x (gates_of net))

    pub pin_before : (i s : ℕ) → i < gates_of net → net_line net (pin_of net (get_or (placed_of net) i 0) s) < net.inputs + i
    pin_before i s l =
        let g = get_or (placed_of net) i 0 in
        pin_cases (λ x. net_line net x < net.inputs + i) g s
        (before i _ l (r.firsts_inside g (order-gate net r i l)) (inl refl))
        (before i _ l (r.seconds_inside g (order-gate net r i l)) (inr refl))

    -- ---- on line k

    pub kind_below : (k : ℕ) → k < net_size net → net_kind net k < selector
    kind_below =
        line_cases net (λ k. net_kind net k < selector)
        (λ k l. rw (input_kind net k l) (omega arith))
        (λ i l. rw (kind_gate i) (r.no_selector (get_or (placed_of net) i 0) (order-gate net r i l)))

    pub source_lower : (k s : ℕ) → k < net_size net → 1 ≤ s → s ≤ pins_of (net_kind net k) → net_source net k s < k
    unfolding pins_of
    source_lower k s l a =
        line_cases net (λ k. s ≤ pins_of (net_kind net k) → net_source net k s < k)
        (λ k m h. absurd (omega (arith, rw (input_kind net k m) at h)))
        (λ i m h. rw (source_has (net.inputs + i) s h, number-gate net i) (pin_before i s m))
        k l

    -- so it is the number of a line
    pub source_inside : (k s : ℕ) → k < net_size net → 1 ≤ s → net_source net k s < net_size net
    source_inside k s l a =
        ⊎_elim (λ h. omega (arith, source_lacks net k s h)) (λ h. omega (arith, source_lower k s l a h)) (either (pins_of (net_kind net k)) s)

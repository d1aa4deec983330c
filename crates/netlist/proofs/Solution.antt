-- Where the lines of a net's records follow from their sources, they hold the one solution of the net's equations.
-- By any gate rule, over any values.
-- Assumes nothing.
use mathlib.Core.Path.{◌≡◌, sym, ap, ◌∙◌}
use Prim.Native.Nat.{ℕ, ◌+◌, ◌≤◌, ◌<◌}
use native.Mathlib.Omega.{arith}
use lib.ListN.{get_or}
use Rattle.ground.specs.Lists.{index_in}
use Rattle.ground.proofs.Below.{each_below}
use Rattle.circuit.specs.Record.{kind_at}
use Rattle.gates.proofs.Laws.{few_pins}
use Rattle.records.specs.Net.{Net, gates_of, net_size, pin_of, placed_of, net_line, number_on, records_of}
use Rattle.records.proofs.Stands.{input-number}
use Rattle.netlist.specs.Solved.{Solved, Right}
use Rattle.netlist.proofs.Numbers.{number-gate, line-input, line-gate, line_cases, order-gate, place, line_inside, number-line}
use Rattle.netlist.proofs.Sources.{kind_gate, source_has, pin_inside, pin_before}
use Rattle.netlist.proofs.Fields.{net_kind_lem, net_pin}
use Rattle.netlist.proofs.Counts.{input-line, inputs_before_lem, gate-line}
use Rattle.netlist.proofs.Follows.{Own, FollowsGates}

module _ {A : Type 0} {gate : ℕ → (ℕ → A) → A} (own : Own gate) {net : Net} (r : Right net) (few : net_size net ≤ 65536)
    {inputs value : ℕ → A} (follows : FollowsGates gate (records_of net) (net_size net) inputs value) where
  on-input : (j : ℕ) → j < net.inputs → value j ≡ inputs j
  on-input j l = follows.at_input j (omega arith) (input-line net j l) ∙ ap inputs (inputs_before_lem net j l)

  -- the line of gate i in the order, by the lines of its sources
  on-gate : (i : ℕ) → i < gates_of net
      → value (net.inputs + i) ≡ gate (get_or net.kinds (get_or (placed_of net) i 0) 0) (λ s. value (net_line net (pin_of net (get_or (placed_of net) i 0) s)))
  on-gate i l =
      let g = get_or (placed_of net) i 0 in
      let inside = order-gate net r i l in
      let k = net.inputs + i in
      let kind : kind_at (records_of net) k ≡ get_or net.kinds g 0 = net_kind_lem net k (omega arith) ∙ kind_gate net i in
      follows.at_gate k (omega arith) (gate-line net r i l)
      ∙ rw kind
      (own (get_or net.kinds g 0) _ _ (r.some_kind g inside) (omega (arith, r.no_selector g inside))
      (λ s a b. ap value
      (net_pin net k (omega arith) r few s a (omega (arith, few_pins (get_or net.kinds g 0)))
      ∙ source_has net k s (rw (kind_gate net i) b)
      ∙ ap (λ (x : ℕ). net_line net (pin_of net x s)) (number-gate net i))))

  pub solution : Solved gate net inputs (λ x. value (net_line net x))
  solution = record {
    given = λ j l. rw (line-input net j) (on-input j l);
    equation = λ g l. let w = place net r g l in rw (line-gate net g l) (rw w.is at (on-gate (index_in (placed_of net) g) w.below));
  }

  module _ {v : ℕ → A} (solved : Solved gate net inputs v) where
    -- line k has the value of the number that stands there, where the lines below it have theirs
    next : (k : ℕ) → k < net_size net → ((j : ℕ) → j < k → v (number_on net j) ≡ value j) → v (number_on net k) ≡ value k
    next =
        line_cases net (λ k. ((j : ℕ) → j < k → v (number_on net j) ≡ value j) → v (number_on net k) ≡ value k)
        (λ k l below. rw (input-number net k l) (solved.given k l ∙ sym (on-input k l)))
        (λ i l below.
        let g = get_or (placed_of net) i 0 in
        let inside = order-gate net r i l in
        rw (number-gate net i)
        (solved.equation g inside
        ∙ own (get_or net.kinds g 0) _ _ (r.some_kind g inside) (omega (arith, r.no_selector g inside))
        (λ s a b. sym (ap v (number-line net r (pin_of net g s) (pin_inside net r g s inside))) ∙ below (net_line net (pin_of net g s)) (pin_before net r i s l))
        ∙ sym (on-gate i l)))

    pub unique : (x : ℕ) → x < net_size net → v x ≡ value (net_line net x)
    unique x l =
        sym (ap v (number-line net r x l))
        ∙ each_below (λ k. v (number_on net k) ≡ value k) (net_size net) next (net_line net x) (line_inside net r x l)

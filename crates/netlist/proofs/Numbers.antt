-- Lines and numbers of a net whose gates are all placed: each number has one line, and on line k stands the number of that line.
-- Assumes nothing.
use mathlib.Core.Path.{◌≡◌, ap, ◌∙◌}
use mathlib.Core.Logic.{⊎_elim}
use Prim.Native.Nat.{ℕ, ◌+◌, ◌-◌, ◌<◌}
use native.Mathlib.Omega.{arith}
use lib.ListN.{length, get_or}
use borrow.Author.Tests.{lt-ltb, le-ltb}
use Rattle.ground.specs.Lists.{index_in}
use Rattle.ground.proofs.Tests.{either}
use Rattle.ground.proofs.Lists.{At}
use Rattle.ground.proofs.Elem.{index_of}
use Rattle.order.proofs.Says.{order_inside, order_index, all_placed, full_order}
use Rattle.records.specs.Net.{Net, gates_of, net_size, placed_of, net_line, number_on}
use Rattle.records.proofs.Stands.{input-number, gate-number}
use Rattle.netlist.specs.Solved.{Right}

module _ (net : Net) where
  -- ---- of an input

  pub line-input : (j : ℕ) → net_line net (gates_of net + j) ≡ j
  unfolding net_line
  line-input j =
      let e : (gates_of net + j) - gates_of net ≡ j = omega arith in
      rw (le-ltb (gates_of net + j) (gates_of net) (omega arith), e)

  -- ---- of a gate

  pub number-gate : (i : ℕ) → number_on net (net.inputs + i) ≡ get_or (placed_of net) i 0
  number-gate i =
      let e : (net.inputs + i) - net.inputs ≡ i = omega arith in
      rw e at (gate-number net (net.inputs + i) (omega arith))

  pub line-gate : (g : ℕ) → g < gates_of net → net_line net g ≡ net.inputs + index_in (placed_of net) g
  unfolding net_line
  line-gate g l = rw (lt-ltb g (gates_of net) l)

  -- ---- a line is an input's or that of gate i in the order, a number an input's or a gate's

  pub line_cases : (P : ℕ → Type 0) → ((k : ℕ) → k < net.inputs → P k) → ((i : ℕ) → i < gates_of net → P (net.inputs + i)) → (k : ℕ) → k < net_size net → P k
  line_cases P input gate k l =
      ⊎_elim (input k)
      (λ h. let e : net.inputs + (k - net.inputs) ≡ k = omega arith in rw e at (gate (k - net.inputs) (omega arith)))
      (either k net.inputs)

  pub number_cases : (P : ℕ → Type 0) → ((j : ℕ) → j < net.inputs → P (gates_of net + j)) → ((g : ℕ) → g < gates_of net → P g) → (x : ℕ) → x < net_size net → P x
  number_cases P input gate x l =
      ⊎_elim (gate x)
      (λ h. let e : gates_of net + (x - gates_of net) ≡ x = omega arith in rw e at (input (x - gates_of net) (omega arith)))
      (either x (gates_of net))

  module _ (r : Right net) where
    -- ---- the gates in order

    pub order_long : length (placed_of net) ≡ gates_of net
    order_long = full_order net.firsts net.seconds r.placed

    pub order-gate : (i : ℕ) → i < gates_of net → get_or (placed_of net) i 0 < gates_of net
    order-gate i l = order_inside net.firsts net.seconds i (omega (arith, order_long))

    pub order_at : (i : ℕ) → i < gates_of net → index_in (placed_of net) (get_or (placed_of net) i 0) ≡ i
    order_at i l = order_index net.firsts net.seconds i (omega (arith, order_long))

    -- a gate's place in the order
    pub place : (g : ℕ) → g < gates_of net → At (placed_of net) (gates_of net) g
    place g l =
        rw order_long at (index_of (placed_of net) g (all_placed net.firsts net.seconds r.placed g l))

    -- ---- there and back

    pub line_inside : (x : ℕ) → x < net_size net → net_line net x < net_size net
    line_inside =
        number_cases (λ x. net_line net x < net_size net)
        (λ j l. rw (line-input j) (omega arith))
        (λ g l. let w = place g l in rw (line-gate g l) (omega arith))

    pub number_inside : (k : ℕ) → k < net_size net → number_on net k < net_size net
    number_inside =
        line_cases (λ k. number_on net k < net_size net)
        (λ k l. rw (input-number net k l) (omega arith))
        (λ i l. rw (number-gate i) (omega (arith, order-gate i l)))

    pub line-number : (k : ℕ) → k < net_size net → net_line net (number_on net k) ≡ k
    line-number =
        line_cases (λ k. net_line net (number_on net k) ≡ k)
        (λ k l. rw (input-number net k l) (line-input k))
        (λ i l. rw (number-gate i) (line-gate (get_or (placed_of net) i 0) (order-gate i l) ∙ ap (λ (j : ℕ). net.inputs + j) (order_at i l)))

    pub number-line : (x : ℕ) → x < net_size net → number_on net (net_line net x) ≡ x
    number-line =
        number_cases (λ x. number_on net (net_line net x) ≡ x)
        (λ j l. rw (line-input j) (input-number net j l))
        (λ g l. rw (line-gate g l) (number-gate (index_in (placed_of net) g) ∙ (place g l).is))

-- How many inputs and outputs the records of a net have: the inputs of the net, and those lines whose number is an output.
-- Assumes nothing.
use mathlib.Core.Path.{◌≡◌, refl, ◌∙◌}
use mathlib.Core.Bool.{Bool, true, false}
use mathlib.Core.List.{List, [], ◌∷◌}
use Prim.Native.Nat.{ℕ, zero, suc, ◌+◌, ◌≤◌, ◌<◌}
use native.Mathlib.Nat.{add-zero, add-suc}
use native.Mathlib.Omega.{arith}
use lib.ListN.{length, get_or}
use borrow.Author.Tests.{eq-eqb, ne_eqb}
use Rattle.ground.specs.Below.{count_below}
use Rattle.ground.specs.Lists.{elem}
use Rattle.ground.proofs.Tests.{one-is}
use Rattle.ground.proofs.Elem.{elem_at}
use Rattle.ground.proofs.Counting.{count_same, count_none, count_all, count_below_lem, count_suc}
use Rattle.circuit.specs.Record.{kind_at, is_input, is_output, inputs_before, inputs_of, outputs_of}
use Rattle.records.specs.Net.{Net, gates_of, net_size, placed_of, net_line, number_on, records_of}
use Rattle.records.proofs.Stands.{input_kind}
use Rattle.netlist.specs.Solved.{Right}
use Rattle.netlist.proofs.Numbers.{order-gate, line_inside, number-line}
use Rattle.netlist.proofs.Sources.{kind_gate}
use Rattle.netlist.proofs.Fields.{net_lines, net_kind_lem, net_out}

-- a test that holds at the first m numbers, and at none of the next
count_front : (m i : ℕ) (t : ℕ → Bool) → ((k : ℕ) → k < m → t k ≡ true) → ((j : ℕ) → j < i → t (m + j) ≡ false) → count_below (m + i) t ≡ m
count_front m zero t h n = rw add-zero (count_all m t h)
count_front m (suc i) t h n =
    rw (add-suc, count_suc, n i (omega arith), add-zero) (count_front m i t h (λ j l. n j (omega arith)))

module _ (net : Net) where
  -- ---- inputs

  pub input-line : (k : ℕ) → k < net.inputs → is_input (records_of net) k ≡ true
  input-line k l = eq-eqb _ _ (net_kind_lem net k (omega arith) ∙ input_kind net k l)

  -- the lines below an input are inputs
  pub inputs_before_lem : (k : ℕ) → k < net.inputs → inputs_before (records_of net) k ≡ k
  inputs_before_lem k l = count_all k (is_input (records_of net)) (λ j h. input-line j (omega arith))

  module _ (r : Right net) where
    pub gate-line : (i : ℕ) → i < gates_of net → is_input (records_of net) (net.inputs + i) ≡ false
    gate-line i l =
        ne_eqb (kind_at (records_of net) (net.inputs + i)) 0
        (λ e. omega (
          arith,
          r.some_kind (get_or (placed_of net) i 0) (order-gate net r i l),
          net_kind_lem net (net.inputs + i) (omega arith),
          kind_gate net i,
        ))

    pub net_inputs : inputs_of (records_of net) ≡ net.inputs
    net_inputs = rw (net_lines net) (count_front net.inputs (gates_of net) (is_input (records_of net)) input-line gate-line)

  -- ---- outputs

  pub net_outputs : outputs_of (records_of net) ≡ count_below (net_size net) (λ k. elem net.outputs (number_on net k))
  net_outputs =
      rw (net_lines net)
      (count_same (net_size net) (is_output (records_of net)) (λ k. elem net.outputs (number_on net k)) (λ k l. rw (net_out net k l) (one-is _)))

  elem_none : (l : List ℕ) (x : ℕ) → length l ≡ 0 → elem l x ≡ false
  unfolding elem
  elem_none [] x e = refl
  elem_none (y ∷ l) x e = absurd (omega arith)

  pub some_output_lem : Right net → 1 ≤ length net.outputs → 1 ≤ outputs_of (records_of net)
  some_output_lem r h =
      let x = get_or net.outputs 0 0 in
      let inside = r.outputs_inside 0 h in
      let is : elem net.outputs (number_on net (net_line net x)) ≡ true = rw (number-line net r x inside) (elem_at net.outputs 0 h) in
      rw net_outputs
      (omega (arith, count_below_lem (λ k. elem net.outputs (number_on net k)) (net_line net x) (net_size net) (line_inside net r x inside) is))

  pub no_output : length net.outputs ≡ 0 → outputs_of (records_of net) ≡ 0
  no_output e = net_outputs ∙ count_none (net_size net) (λ k. elem net.outputs (number_on net k)) (λ k l. elem_none net.outputs (number_on net k) e)

-- What simulation computes on the records of a net solves the net's equations, and nothing else does: with three values and over Bool.
-- Assumes nothing.
use mathlib.Core.Path.{◌≡◌}
use mathlib.Core.Bool.{Bool, false}
use mathlib.Core.List.{List}
use Prim.Native.Nat.{ℕ, ◌≤◌, ◌<◌}
use lib.ListN.{get_or}
use Rattle.gates.specs.Gate.{gate_of}
use Rattle.gates.specs.Boolean.{bool_gate}
use Rattle.gates.proofs.Laws.{gate_same, bool_same}
use Rattle.simulate.specs.Simulate.{unforced, gate_value, line_value, values_to}
use Rattle.simulate.specs.Boolean.{Vector, good, gate_truth, line_truth, truth_at}
use Rattle.records.specs.Net.{Net, net_size, net_line, records_of}
use Rattle.netlist.specs.Solved.{Solved, Right}
use Rattle.netlist.proofs.KeepsLayout.{net_layout}
use Rattle.netlist.proofs.Follows.{FollowsGates, follows}
use Rattle.netlist.proofs.Solution.{solution, unique}

module _ (net : Net) (r : Right net) (few : net_size net ≤ 65536) where
  -- ---- three values

  module _ (p : List ℕ) where
    values_follow : FollowsGates gate_of (records_of net) (net_size net) (λ j. get_or p j 0) (λ k. get_or (values_to unforced (records_of net) p (net_size net)) k 0)
    unfolding line_value gate_value
    values_follow = follows gate_of (records_of net) (λ j. get_or p j 0) 0 (λ kind v w _ _. gate_same kind v w) (net_size net) (net_layout net r few)

    pub solution3 : Solved gate_of net (λ j. get_or p j 0) (λ x. get_or (values_to unforced (records_of net) p (net_size net)) (net_line net x) 0)
    solution3 = solution (λ kind v w _ _. gate_same kind v w) r few values_follow

    pub unique3 : {value : ℕ → ℕ} → Solved gate_of net (λ j. get_or p j 0) value
        → (x : ℕ) → x < net_size net → value x ≡ get_or (values_to unforced (records_of net) p (net_size net)) (net_line net x) 0
    unique3 = unique (λ kind v w _ _. gate_same kind v w) r few values_follow

  -- ---- Booleans

  module _ (v : Vector) where
    truths_follow : FollowsGates bool_gate (records_of net) (net_size net) v (truth_at good (records_of net) v (net_size net))
    unfolding line_truth gate_truth
    truths_follow = follows bool_gate (records_of net) v false bool_same (net_size net) (net_layout net r few)

    pub solution2 : Solved bool_gate net v (λ x. truth_at good (records_of net) v (net_size net) (net_line net x))
    solution2 = solution bool_same r few truths_follow

    pub unique2 : {truth : ℕ → Bool} → Solved bool_gate net v truth
        → (x : ℕ) → x < net_size net → truth x ≡ truth_at good (records_of net) v (net_size net) (net_line net x)
    unique2 = unique bool_same r few truths_follow

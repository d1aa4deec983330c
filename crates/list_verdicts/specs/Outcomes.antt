-- What the bytes that the search for a list leaves say of one of its faults.
-- Assumes nothing.
use Rattle.std.specs.Prelude.{◌≡◌, ◌↔◌, List, ℕ, ◌+◌, ◌-◌, ◌^◌, ◌≤◌, ◌<◌}
use Rattle.circuit.specs.Record.{inputs_of}
use Rattle.lists.specs.declared.Fault.{Fault}
use Rattle.simulate.specs.Boolean.{Vector}
use Rattle.simulate.specs.Vectors.{Fills}
use Rattle.verdicts.specs.Told.{Tells, all_nodes}

-- the outcome is 0 test, 1 redundant or 2 given up, which is no verdict; b was the budget
pub record OutcomeMeans (c : List ℕ) (fault : Fault) (b outcome count : ℕ) (test : List ℕ) : Type 0 where
  pub three : outcome ≤ 2
  -- a test: every filling of its bytes tells good from faulty
  pub test_detects : outcome ≡ 0 → (x : Vector) → Fills test x → Tells c fault x
  -- unless it was given up, it is "test" exactly if a complete vector tells, and "redundant" exactly if none does
  pub test_exactly : (outcome ≡ 2 → ⊥) → (outcome ≡ 0) ↔ ((x : Vector) × Tells c fault x)
  pub redundant_exactly : (outcome ≡ 2 → ⊥) → (outcome ≡ 1) ↔ ((x : Vector) → Tells c fault x → ⊥)
  -- it is given up exactly if the search without a budget would look at more than b nodes; for n up to 63 a budget of 2 ^ (n + 1) - 1 is enough
  pub gives_up : (outcome ≡ 2) ↔ (b < all_nodes c fault)
  pub enough : inputs_of c ≤ 63 → b ≡ 2 ^ (inputs_of c + 1) - 1 → outcome ≡ 2 → ⊥
  -- the count is that of all nodes of the search, or b
  pub counted : (outcome ≡ 2 → ⊥) → count ≡ all_nodes c fault
  pub spent : outcome ≡ 2 → count ≡ b

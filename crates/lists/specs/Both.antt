-- The two lists that come with a circuit, in the order in which they are checked: refusals 6 to 9.
-- Assumes nothing.
use Rattle.std.specs.Prelude.{List, ◌++◌, ℕ}
use Rattle.answers.specs.Rules.{Rule}
use Rattle.lists.specs.Faults.{fault_rules}
use Rattle.lists.specs.Patterns.{pattern_rules}

-- of a circuit with n inputs
abbrev pub list_rules : List ℕ → ℕ → List ℕ → List ℕ → List Rule
list_rules c n fs ps = fault_rules 256 c fs ++ pattern_rules n ps

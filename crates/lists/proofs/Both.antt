-- The rules of both lists: tests and words agree, and what is not refused is good.
-- Assumes nothing.
use mathlib.Core.Path.{◌≡◌}
use mathlib.Core.List.{List}
use Prim.Native.Nat.{ℕ, ◌≤◌}
use Rattle.answers.specs.Rules.{refusal, AllSay}
use Rattle.answers.proofs.Rules.{both_fine, both_say}
use Rattle.lists.specs.Faults.{fault_count, fault_rules, GoodFaults}
use Rattle.lists.specs.Patterns.{pattern_count, pattern_rules, GoodPatterns}
use Rattle.lists.specs.Both.{list_rules}
use Rattle.lists.proofs.Faults.{faults_say, good_faults}
use Rattle.lists.proofs.Patterns.{patterns_say, good_patterns}
use Rattle.std.specs.Prelude.{Ok}

module _ (c : List ℕ) (n : ℕ) (fs ps : List ℕ) where
  pub lists_say : AllSay (list_rules c n fs ps)
  lists_say = both_say (fault_rules 256 c fs) (pattern_rules n ps) (faults_say 256 c fs) (patterns_say n ps)

  pub good_lists : refusal (list_rules c n fs ps) ≡ Ok tt → GoodFaults 256 c fs × GoodPatterns n ps
  good_lists e = let b = both_fine (fault_rules 256 c fs) (pattern_rules n ps) e in (good_faults 256 c fs b.0, good_patterns n ps b.1)

  pub lists_few : refusal (list_rules c n fs ps) ≡ Ok tt → (fault_count fs ≤ 256) × (pattern_count n ps ≤ 256)
  lists_few e = let g = good_lists e in (g.0.records.few, g.1.records.few)

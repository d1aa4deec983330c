-- The rules of a pattern list: tests and words agree, and what is not refused is good; and where its patterns lie.
-- Assumes nothing.
use mathlib.Core.Path.{◌≡◌}
use mathlib.Core.List.{List}
use Prim.Native.Nat.{ℕ, ◌+◌, ◌*◌, ◌≤◌, ◌<◌}
use native.Mathlib.Nat.{suc-mul, mul_comm, mul-le-mul_right}
use native.Mathlib.Omega.{arith}
use lib.ListN.{length, length-take, length-drop}
use Rattle.answers.specs.Records.{Records}
use Rattle.answers.specs.Rules.{Ruling}
use Rattle.answers.specs.Rules.{refusal, Applies, AllSay, AllHold}
use Rattle.answers.proofs.Rules as rules
use Rattle.answers.proofs.Rules.{all_hold}
use Rattle.answers.proofs.Same.{small_same}
use Rattle.answers.proofs.Records.{any_width}
use Rattle.lists.specs.Patterns.{pattern_count, pattern_at, pattern_rules, GoodPatterns}
use Rattle.std.specs.Prelude.{Ok, Err}
use Rattle.answers.specs.declared.Reason.{Reason}

module _ (n : ℕ) (ps : List ℕ) where
  pub patterns_say : AllSay (pattern_rules n ps)
  unfolding pattern_rules AllSay
  patterns_say = (any_width n 256 (length ps), ((λ i l. small_same ps i), tt))

  pub good_patterns : refusal (pattern_rules n ps) ≡ Ok tt → GoodPatterns n ps
  unfolding pattern_rules AllHold
  good_patterns e = let a = all_hold (pattern_rules n ps) patterns_say e in record { records = a.0; bytes = a.1.0 }

-- a refusal of the check is the first that applies, with the lowest place; and where one applies, it is given
module _ (n : ℕ) (ps : List ℕ) {r : Ruling} (is : r ≡ refusal (pattern_rules n ps)) (reason : Reason) (place : ℕ) where
  pub refused_applies : r ≡ Err (reason, place) → Applies (pattern_rules n ps) reason place
  refused_applies = rules.refused_applies (pattern_rules n ps) (patterns_say n ps) is reason place

  pub applies_refused : Applies (pattern_rules n ps) reason place → r ≡ Err (reason, place)
  applies_refused = rules.applies_refused (pattern_rules n ps) (patterns_say n ps) is reason place

-- part i of count parts of a width
pub part_fits : (i count width : ℕ) → i < count → i * width + width ≤ width * count
part_fits i count width h = rw (← suc-mul i width, mul_comm width count) (mul-le-mul_right width h)

-- pattern i lies in the list, and is whole
module _ {n : ℕ} (ps : List ℕ) {i : ℕ} (r : Records n 256 (length ps)) (h : i < pattern_count n ps) where
  pub pattern_fits : i * n + n ≤ length ps
  pattern_fits = omega (arith, part_fits i (pattern_count n ps) n h, r.multiple)

  pub pattern_whole : length (pattern_at n ps i) ≡ n
  pattern_whole = simp (length-take, length-drop) (omega (arith, pattern_fits))

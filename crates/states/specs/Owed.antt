-- What the functions of the clocked circuit's check owe each other and their callers; no reader of the promises needs it.
-- Assumes nothing.
use Rattle.std.specs.Prelude.{◌≡◌, Bool, ◌&&◌, List, ℕ, ◌+◌, ◌*◌, ◌≤◌, leb, length, Result}
use Rattle.answers.specs.Rules.{Rule, refusal}
use Rattle.answers.specs.Answer.{answered}
use Rattle.circuit.specs.Record.{lines_of}
use Rattle.states.specs.declared.Clocked.{Clocked}
use Rattle.states.specs.Rules.{inputs_after, clocked_rules, clocked_are}
use Rattle.answers.specs.declared.Refusal.{Refusal}

-- a whole record stands at place r of these bytes
pub record StateInside (st : List ℕ) (r : ℕ) : Type 0 where
  pub inside : 4 * r + 4 ≤ length st

-- 1 to 8 steps
abbrev pub steps_ok : ℕ → Bool
steps_ok k = leb 1 k && leb k 8

-- the lines of a step and the inputs after unfolding, where these rules refuse nothing
abbrev pub clocked_by : List Rule → ℕ → ℕ → Result Clocked Refusal
clocked_by rules lines inputs = answered (refusal rules) (clocked_are lines inputs)

-- what the check of a clocked circuit answers
pub record ClockedChecked (c st : List ℕ) (k : ℕ) (r : Result Clocked Refusal) : Type 0 where
  pub answer : r ≡ clocked_by (clocked_rules c st k) (lines_of c) (inputs_after c st k)

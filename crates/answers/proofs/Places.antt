-- First a whole, then each place: what two such rules say, by the branches that a check of them takes.
-- Assumes nothing.
use mathlib.Core.Path.{◌≡◌}
use mathlib.Core.Bool.{Bool, true, false}
use mathlib.Core.List.{List, [], ◌∷◌}
use Prim.Native.Nat.{ℕ, ◌≤◌, ◌<◌}
use borrow.Author.Tests.{lt-ltb, le-ltb}
use Rattle.ground.specs.Below.{first_not}
use Rattle.answers.specs.Rules.{Rule, said, refusal, Ruling}
use Rattle.answers.specs.Rules.Rule.{whole, each}
use Rattle.std.specs.Prelude.{Ok, Err}
use Rattle.answers.specs.declared.Reason.{Reason}

module _ {first second : Reason} {n place : ℕ} {test : Bool} {tests : ℕ → Bool} {asked : Type 0} {asks : ℕ → Type 0}
    (rules : List Rule) (are : rules ≡ whole first test asked place ∷ each second n tests asks ∷ []) where
  -- the whole is refused
  pub whole_broken : test ≡ false → ◌≡◌ {A = Ruling} (Err (first, place)) (refusal rules)
  unfolding refusal said
  whole_broken e = rw (are, e)

  module _ {bad : ℕ} (kept : test ≡ true) (is : bad ≡ first_not n tests) where
    -- a place is, the first that is bad
    pub place_broken : bad < n → ◌≡◌ {A = Ruling} (Err (second, bad)) (refusal rules)
    unfolding refusal said
    place_broken l = rw (are, kept, ← is, lt-ltb bad n l)

    -- nothing is
    pub none_broken : n ≤ bad → Ok tt ≡ refusal rules
    unfolding refusal said
    none_broken l = rw (are, kept, ← is, le-ltb bad n l)

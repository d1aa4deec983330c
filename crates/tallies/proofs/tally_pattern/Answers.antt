-- `tallies::tally_pattern` meets its contract: by whether the pattern is of the set.
-- Assumes nothing.
use mathlib.Core.Path.{refl, sym, ◌∙◌}
use mathlib.Core.Bool.{true≢false}
use Rattle.tallies.proofs.tally_pattern.Goals as goal

pub returns-then-in_set : goal.returns-then-in_set
returns-then-in_set c = record {
  counts = λ _. (c.count_pattern.ensures, c.see_pattern.ensures);
  leaves = λ q. absurd (true≢false (sym c.if-in_set.true ∙ q));
}

pub returns-else-in_set : goal.returns-else-in_set
returns-else-in_set c = record { counts = λ q. absurd (true≢false (sym q ∙ c.if-in_set.false)); leaves = λ _. (refl, refl) }

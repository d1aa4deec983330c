-- The circuit unfolded over several clock steps: the refusals 1, 2, 4, 5, 21, 18, 19 and 10, what is answered, and what is promised.
-- Assumes nothing.
use Rattle.std.specs.Prelude.{◌≡◌, List, [], ◌∷◌, ◌++◌, ℕ, ◌*◌, length, Result}
use Rattle.answers.specs.Rules.{Ruling}
use Rattle.answers.specs.Rules.{Rule, refusal, unless}
use Rattle.answers.specs.Lent.{exact}
use Rattle.answers.specs.Area.{Numbers, success, in_numbers, told}
use Rattle.answers.specs.Answer.{answered}
use Rattle.states.specs.Rules.{lines_after, clocked_rules}
use Rattle.unfolded.specs.Unfolded.{unfolded}
use Rattle.unfold.specs.declared.Unfolding.{Unfolding}
use Rattle.answers.specs.declared.Refusal.{Refusal}

-- the buffer that is lent has eight bytes for each line after unfolding
abbrev pub unfold_room_rules : List ℕ → ℕ → ℕ → List Rule
unfold_room_rules c k size = exact (8 * lines_after c k) size ∷ []

-- all that is checked: the clocked circuit, then the buffer
abbrev pub unfold_rules : List ℕ → List ℕ → ℕ → ℕ → List Rule
unfold_rules c st k size = clocked_rules c st k ++ unfold_room_rules c k size

-- what they say of a buffer u that is lent
abbrev pub unfold_ruling : List ℕ → List ℕ → ℕ → List ℕ → Ruling
unfold_ruling c st k u = refusal (unfold_rules c st k (length u))

-- so many lines
abbrev pub unfolding_is : ℕ → Unfolding
unfolding_is n = record { lines = n }

-- the paper's number and values for each case of the answer
abbrev pub lines_numbers : Unfolding → Numbers
lines_numbers a = success a.lines 0 0

unfoldable pub unfolding_numbers : Result Unfolding Refusal → Numbers
unfolding_numbers = in_numbers lines_numbers

-- the promise, whatever the bytes, where u was lent, and r and u' come back: the answer, its number and values, and every byte of the buffer
pub record UnfoldingMade (c st : List ℕ) (k : ℕ) (u : List ℕ) (r : Result Unfolding Refusal) (u' : List ℕ) : Type 0 where
  pub answer : r ≡ answered (unfold_ruling c st k u) (unfolding_is (lines_after c k))
  pub numbers : unfolding_numbers r ≡ told (unfold_ruling c st k u) (success (lines_after c k) 0 0)
  pub buffer : u' ≡ unless (unfold_ruling c st k u) u (unfolded c st k)

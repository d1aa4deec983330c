-- What C gets of a part with lent memory, whatever the part. With an answer area of another size than 32 bytes nothing is written at all (`entered`).
-- Assumes nothing.
use Rattle.std.specs.Prelude.{◌≡◌, List, ℕ}
use Rattle.answers.specs.Rules.{Rule, refusal, unless}
use Rattle.answers.specs.Area.{Numbers, told, done, Entered, entered}

-- a part with one lent memory, and its answer in numbers where none of the rules refuses: the memory m, lent with the answer area a, becomes
-- m', which is to hold `new`
pub record LentEntered {A : Type 0} (rules : List Rule) (good : Numbers) (m new : List A) (a : List ℕ) (r : ℕ) (m' : List A) (a' : List ℕ) : Type 0 where
  pub answer : Entered a (told (refusal rules) good) r a'
  pub lent : m' ≡ entered a m (unless (refusal rules) m new)

-- a dictionary maker, which answers only that it is done: the table t and the work memory w, lent with the answer area a, become t' and w', which are to
-- hold `made` and `left`
pub record MadeEntered (rules : List Rule) (made left t w a : List ℕ) (r : ℕ) (t' w' a' : List ℕ) : Type 0 where
  pub answer : Entered a (told (refusal rules) done) r a'
  pub table : t' ≡ entered a t (unless (refusal rules) t made)
  pub work : w' ≡ entered a w (unless (refusal rules) w left)

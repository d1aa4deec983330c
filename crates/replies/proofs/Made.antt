-- What an entry owes whose part is a dictionary maker, whichever it is.
-- Assumes nothing.
use mathlib.Core.Path.{◌≡◌, sym, ◌∙◌}
use mathlib.Core.Bool.{true, false}
use mathlib.Core.List.{List}
use Prim.Native.Nat.{ℕ}
use lib.Dec.{eqb}
use lib.ListN.{length}
use Rattle.answers.specs.Rules.{Rule, refusal, unless}
use Rattle.answers.specs.Area.{Numbers, told, done, Entered}
use Rattle.replies.proofs.Entered.{other_size, stays, reported, becomes, one_return}
use Rattle.replies.specs.Entered.{MadeEntered}

module _ {rules : List Rule} {made left t w a : List ℕ} where
  -- an area of another size
  pub nothing_made : eqb (length a) 32 ≡ false → MadeEntered rules made left t w a 10 t w a
  nothing_made other = record { answer = other_size _ other; table = stays _ other; work = stays _ other }

  -- the answer of the part, in numbers, reported
  pub made_reported : {reply found : Numbers} {r : ℕ} {t' w' a' : List ℕ}
      → eqb (length a) 32 ≡ true
      → Entered a reply r a'
      → reply ≡ found
      → found ≡ told (refusal rules) done
      → t' ≡ unless (refusal rules) t made
      → w' ≡ unless (refusal rules) w left
      → MadeEntered rules made left t w a r t' w' a'
  made_reported right p replied numbers table work = record {
    answer = reported p replied numbers;
    table = becomes _ right table;
    work = becomes _ right work;
  }

-- the promise allows one result only
module _ {rules : List Rule} {made left t w a : List ℕ} {r s : ℕ} {t₁ w₁ a₁ t₂ w₂ a₂ : List ℕ} where
  pub one_made : MadeEntered rules made left t w a r t₁ w₁ a₁ → MadeEntered rules made left t w a s t₂ w₂ a₂ → (r ≡ s) × (t₁ ≡ t₂) × (w₁ ≡ w₂) × (a₁ ≡ a₂)
  one_made p q =
      let o = one_return p.answer q.answer in
      (o.0, p.table ∙ sym q.table, p.work ∙ sym q.work, o.1)

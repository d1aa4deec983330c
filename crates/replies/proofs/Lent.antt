-- What an entry owes whose part has one lent memory, whatever the part.
-- Assumes nothing.
use mathlib.Core.Path.{◌≡◌, sym, ◌∙◌}
use mathlib.Core.Bool.{true, false}
use mathlib.Core.List.{List}
use Prim.Native.Nat.{ℕ}
use lib.Dec.{eqb}
use lib.ListN.{length}
use Rattle.answers.specs.Rules.{Rule, refusal, unless}
use Rattle.answers.specs.Area.{Numbers, told, Entered}
use Rattle.replies.proofs.Entered.{other_size, stays, reported, becomes, one_return}
use Rattle.replies.specs.Entered.{LentEntered}

module _ {A : Type 0} {rules : List Rule} {good : Numbers} {m new : List A} {a : List ℕ} where
  -- an area of another size
  pub nothing_lent : eqb (length a) 32 ≡ false → LentEntered rules good m new a 10 m a
  nothing_lent other = record { answer = other_size _ other; lent = stays _ other }

  -- the answer of the part, in numbers, reported
  pub lent_reported : {reply found : Numbers} {r : ℕ} {m' : List A} {a' : List ℕ}
      → eqb (length a) 32 ≡ true
      → Entered a reply r a'
      → reply ≡ found
      → found ≡ told (refusal rules) good
      → m' ≡ unless (refusal rules) m new
      → LentEntered rules good m new a r m' a'
  lent_reported right p replied numbers lent = record { answer = reported p replied numbers; lent = becomes _ right lent }

-- the promise allows one result only
module _ {A : Type 0} {rules : List Rule} {good : Numbers} {m new : List A} {a : List ℕ} {r s : ℕ} {m₁ m₂ : List A} {a₁ a₂ : List ℕ} where
  pub one_lent : LentEntered rules good m new a r m₁ a₁ → LentEntered rules good m new a s m₂ a₂ → (r ≡ s) × (m₁ ≡ m₂) × (a₁ ≡ a₂)
  one_lent p q = let o = one_return p.answer q.answer in (o.0, p.lent ∙ sym q.lent, o.1)

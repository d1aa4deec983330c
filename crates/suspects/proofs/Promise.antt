-- What the promises say: one result; and how the code comes to them.
-- Assumes nothing.
use mathlib.Core.Path.{◌≡◌, sym, ap, ◌∙◌}
use mathlib.Core.List.{List}
use Prim.Native.Nat.{ℕ}
use Rattle.answers.specs.Rules.{Rule, refusal, unless}
use Rattle.answers.specs.Answer.{answered}
use Rattle.answers.proofs.Answer.{numbers-told}
use Rattle.suspects.specs.Promise.{narrowed_numbers, Becomes}
use Rattle.std.specs.Prelude.{Ok, Err, Result}
use Rattle.answers.specs.declared.Refusal.{Refusal}

module _ {M : Type 0} {rules : List Rule} {m new : M} {n : ℕ} where
  -- two results that a promise allows are equal
  pub one_result : {r q : Result ℕ Refusal} {m' m'' : M} → Becomes rules m new n r m' → Becomes rules m new n q m'' → (r ≡ q) × (m' ≡ m'')
  one_result p q = (p.answer ∙ sym q.answer, p.state ∙ sym q.state)

  -- ---- as the code comes to it

  pub is_refused : {why : Refusal} → refusal rules ≡ Err why → Becomes rules m new n (Err why) m
  unfolding narrowed_numbers
  is_refused e = record { answer = rw e; numbers = rw e; state = rw e }

  pub is_taken : {r : Result ℕ Refusal} {m' : M} → refusal rules ≡ Ok tt → r ≡ Ok n → m' ≡ new → Becomes rules m new n r m'
  unfolding narrowed_numbers
  is_taken e says is = record { answer = rw e says; numbers = rw (e, says); state = rw e is }

  -- of the answer alone
  pub told_so : {r : Result ℕ Refusal} {m' : M} → r ≡ answered (refusal rules) n → m' ≡ unless (refusal rules) m new → Becomes rules m new n r m'
  unfolding narrowed_numbers
  told_so says is = record { answer = says; numbers = ap narrowed_numbers says ∙ numbers-told _ (refusal rules) n; state = is }

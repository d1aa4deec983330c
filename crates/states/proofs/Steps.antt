-- The answer of the check, rule by rule: the steps, the records, the sizes after unfolding; and before all that the circuit.
-- Assumes nothing.
use mathlib.Core.Path.{◌≡◌, refl, sym, ap, ◌∙◌}
use mathlib.Core.Bool.{Bool, true, false}
use mathlib.Core.List.{List, ◌∷◌, ◌++◌}
use Prim.Native.Nat.{ℕ, ◌+◌, ◌*◌, ◌-◌, ◌≤◌}
use native.Mathlib.Nat.{mul-le-mul}
use native.Mathlib.Omega.{arith}
use lib.Dec.{leb}
use borrow.Author.Tests.{leb-true}
use Rattle.ground.proofs.Tests.{both}
use Rattle.answers.specs.Rules.{Rule, said, refusal, Applies}
use Rattle.answers.specs.Rules.Rule.{whole}
use Rattle.answers.proofs.Rules.{after_refused, after_fine, both_fine, same_good}
use Rattle.answers.proofs.Answer as answer
use Rattle.answers.proofs.Answer.{ruling_of, was_ruled}
use Rattle.circuit.specs.Record.{lines_of}
use Rattle.circuit.specs.Promise.{circuit_rules}
use Rattle.circuit.specs.Formed.{Good, Accepts, Known}
use Rattle.states.specs.declared.Clocked.{Clocked}
use Rattle.states.specs.States.{free_before}
use Rattle.states.specs.Rules.{lines_after, inputs_after, step_rules, clocked_rules, GoodSteps, clocked_are}
use Rattle.states.specs.Owed.{steps_ok, clocked_by, ClockedChecked}
use Rattle.states.specs.Rules.{state_rules, after_rules}
use Rattle.circuit.proofs.Accepted.{good}
use Rattle.states.proofs.Says.{clocked_says, good_steps}
use Rattle.std.specs.Prelude.{Ok, Err, Result}
use Rattle.answers.specs.declared.Refusal.{Refusal}
use Rattle.answers.specs.declared.Reason.{Reason}
use Rattle.answers.specs.declared.Reason.TheVariants.{StepCount}

-- ---- the steps, the records, the sizes

pub some_steps : (k : ℕ) → steps_ok k ≡ true → (1 ≤ k) × (k ≤ 8)
some_steps k e = let b = both (leb 1 k) _ e in (leb-true 1 k b.0, leb-true k 8 b.1)

-- the numbers that the code computes are small
pub small_lines : (k n : ℕ) → k ≤ 8 → n ≤ 2048 → k * n ≤ 16384
small_lines k n a b = omega (arith, mul-le-mul a b)

pub small_inputs : (k free : ℕ) → k ≤ 8 → free ≤ 2048 → (k - 1) * free ≤ 16384
small_inputs k free a b = small_lines (k - 1) free (omega arith) b

-- a rule that is kept leaves the ruling to those after it
after_kept : {test : Bool} (asked : Type 0) (reason : Reason) (place : ℕ) (rules : List Rule) → test ≡ true → refusal (whole reason test asked place ∷ rules) ≡ refusal rules
unfolding refusal said
after_kept asked reason place rules e = rw e

module _ (c st : List ℕ) (k : ℕ) where
  -- the rules of the steps are those of the records, then those of the sizes, behind the first
  abbrev later : List Rule
  later = state_rules c st ++ after_rules (lines_after c k) (inputs_after c st k)

  later_decide : steps_ok k ≡ true → refusal (step_rules c st k) ≡ refusal later
  unfolding step_rules state_rules after_rules
  later_decide some = after_kept ((1 ≤ k) × (k ≤ 8)) StepCount 0 (state_rules c st ++ after_rules (lines_after c k) (inputs_after c st k)) some

  module _ (n m : ℕ) where
    pub steps_refused : steps_ok k ≡ false → Err (StepCount, 0) ≡ clocked_by (step_rules c st k) n m
    unfolding step_rules refusal said
    steps_refused e = rw e

    module _ (some : steps_ok k ≡ true) where
      pub states_refused : {why : Refusal} → refusal (state_rules c st) ≡ Err why → Err why ≡ clocked_by (step_rules c st k) n m
      states_refused e = rw (later_decide some ∙ after_refused (state_rules c st) (after_rules (lines_after c k) (inputs_after c st k)) e)

      -- where n lines have m inputs, and so many of them are free
      pub sizes_decide : {free : ℕ} {r : Result Clocked Refusal} → Known c n m → free ≡ free_before c st n → refusal (state_rules c st) ≡ Ok tt
          → r ≡ clocked_by (after_rules (k * n) (m + (k - 1) * free)) n (m + (k - 1) * free)
          → r ≡ clocked_by (step_rules c st k) n (inputs_after c st k)
      sizes_decide {free} known is e answer =
          let inputs : m + (k - 1) * free ≡ inputs_after c st k = rw (known.inputs, is, known.lines) in
          let lines : k * n ≡ lines_after c k = rw known.lines in
          answer ∙ rw (lines, inputs, later_decide some ∙ after_fine (state_rules c st) (after_rules (lines_after c k) (inputs_after c st k)) e)

-- ---- the circuit before them

module _ {c st : List ℕ} {k : ℕ} where
  pub circuit_refused : {why : Refusal} → refusal (circuit_rules c) ≡ Err why → ClockedChecked c st k (Err why)
  circuit_refused e = record { answer = rw (after_refused (circuit_rules c) (step_rules c st k) e) }

  pub steps_decide : {n m o : ℕ} {r : Result Clocked Refusal} → Accepts c n m o → r ≡ clocked_by (step_rules c st k) n (inputs_after c st k) → ClockedChecked c st k r
  steps_decide a e = record { answer = e ∙ rw (after_fine (circuit_rules c) (step_rules c st k) a.fine, a.lines) }

-- ---- what the answer says

-- what is not refused
pub record ClockedTaken (c st : List ℕ) (k : ℕ) : Type 0 where
  pub fine : refusal (clocked_rules c st k) ≡ Ok tt
  pub circuit_fine : refusal (circuit_rules c) ≡ Ok tt
  pub good : Good c
  pub steps : GoodSteps c st k

pub clocked_taken : (c st : List ℕ) (k : ℕ) → refusal (clocked_rules c st k) ≡ Ok tt → ClockedTaken c st k
clocked_taken c st k e =
    let b = both_fine (circuit_rules c) (step_rules c st k) e in
    record { fine = e; circuit_fine = b.0; good = good c b.0; steps = good_steps c st k b.1 }

module _ {c st : List ℕ} {k : ℕ} {r : Result Clocked Refusal} (p : ClockedChecked c st k r) where
  was : refusal (clocked_rules c st k) ≡ ruling_of r
  was = was_ruled _ p.answer refl

  pub clocked_refuses : {why : Refusal} → r ≡ Err why → refusal (clocked_rules c st k) ≡ Err why
  clocked_refuses told = was ∙ ap ruling_of told

  pub clocked_accepts : {n m : ℕ} → r ≡ Ok (clocked_are n m) → ClockedTaken c st k × (n ≡ lines_of c) × (m ≡ inputs_after c st k)
  clocked_accepts {n} {m} told =
      let q : refusal (clocked_rules c st k) ≡ Ok tt = was ∙ ap ruling_of told in
      let so : clocked_are n m ≡ clocked_are (lines_of c) (inputs_after c st k) = same_good (sym told ∙ p.answer ∙ rw q) in
      (clocked_taken c st k q, ap (λ (a : Clocked). a.lines) so, ap (λ (a : Clocked). a.inputs) so)

  -- a refusal is the first that applies, with the lowest place; and where one applies, it is given
  module _ (reason : Reason) (place : ℕ) where
    pub refused_applies : r ≡ Err (reason, place) → Applies (clocked_rules c st k) reason place
    refused_applies = answer.refused_applies _ (clocked_rules c st k) (clocked_says c st k) p.answer reason place

    pub applies_refused : Applies (clocked_rules c st k) reason place → r ≡ Err (reason, place)
    applies_refused = answer.applies_refused _ (clocked_rules c st k) (clocked_says c st k) p.answer reason place

-- From the checks to the promise: tests and words of the rules agree, what is not refused is ready; and that the promise allows one result only.
-- Assumes nothing.
use mathlib.Core.Path.{◌≡◌, ap, ◌∙◌}
use mathlib.Core.List.{List}
use Prim.Native.Nat.{ℕ, ◌*◌}
use lib.ListN.{length}
use borrow.Author.Tests.{eq-eqb, ne_eqb}
use Rattle.answers.specs.Rules.{said, refusal, AllSay, AllHold}
use Rattle.answers.specs.Owed.{RulesDone}
use Rattle.answers.proofs.Rules.{all_hold, both_fine, both_say}
use Rattle.answers.proofs.Same.{eq_same}
use Rattle.answers.proofs.Answer.{numbers-told, refused_done, fine_done, first_refused, first_fine}
use Rattle.circuit.specs.Record.{lines_of}
use Rattle.states.specs.declared.Clocked.{Clocked}
use Rattle.states.specs.Rules.{lines_after, clocked_rules, clocked_are}
use Rattle.states.specs.Owed.{ClockedChecked}
use Rattle.states.proofs.Says.{clocked_says}
use Rattle.states.proofs.Steps.{ClockedTaken, clocked_taken, clocked_refuses, clocked_accepts}
use Rattle.unfolded.specs.Unfolded.{unfolded}
use Rattle.unfold.specs.Promise.{unfold_room_rules, unfold_rules, unfolding_is, unfolding_numbers, UnfoldingMade}
use Rattle.unfold.specs.declared.Unfolding.{Unfolding}
use Rattle.unfold.specs.Owed.{UnfoldingReady, RoomDone}
use Rattle.std.specs.Prelude.{Ok, Err, Result}
use Rattle.answers.specs.declared.Refusal.{Refusal}
use Rattle.answers.specs.declared.Reason.TheVariants.{BufferSize}

-- ---- the rules

room_says : (c : List ℕ) (k size : ℕ) → AllSay (unfold_room_rules c k size)
unfolding AllSay
room_says c k size = (eq_same size (8 * lines_after c k), tt)

-- what is not refused
pub record UnfoldTaken (c st : List ℕ) (k size : ℕ) : Type 0 where
  pub clocked : ClockedTaken c st k
  pub room : size ≡ 8 * lines_after c k

module _ (c st : List ℕ) (k size : ℕ) where
  pub unfold_says : AllSay (unfold_rules c st k size)
  unfold_says = both_say (clocked_rules c st k) (unfold_room_rules c k size) (clocked_says c st k) (room_says c k size)

  pub unfold_taken : refusal (unfold_rules c st k size) ≡ Ok tt → UnfoldTaken c st k size
  unfolding AllHold
  unfold_taken e =
      let b = both_fine (clocked_rules c st k) (unfold_room_rules c k size) e in
      record { clocked = clocked_taken c st k b.0; room = (all_hold (unfold_room_rules c k size) (room_says c k size) b.1).0 }

-- ---- the answer

pub ready : {c st : List ℕ} {n k : ℕ} → n ≡ lines_of c → ClockedTaken c st k → UnfoldingReady c st n k
ready e t = record { lines = e; well = t.good.well; steps = t.steps }

-- what is answered and what the buffer holds, by the rules
abbrev Done : List ℕ → List ℕ → ℕ → List ℕ → Result Unfolding Refusal → List ℕ → Type 0
Done c st k u r u' = RulesDone (unfold_rules c st k (length u)) (unfolding_is (lines_after c k)) u (unfolded c st k) r u'

-- the last rule, where the buffer has this size
module _ (c st : List ℕ) (k : ℕ) (u : List ℕ) {lines : ℕ} (are : lines ≡ lines_after c k) where
  pub room_refused : (length u ≡ 8 * lines → ⊥) → RoomDone c st k u (Err (BufferSize, 0)) u
  unfolding refusal said
  room_refused d = refused_done (rw (ne_eqb (length u) (8 * lines_after c k) (λ e. d (rw are e))))

  pub room_fine : {u' : List ℕ} → length u ≡ 8 * lines → u' ≡ unfolded c st k → RoomDone c st k u (Ok (unfolding_is lines)) u'
  unfolding refusal said
  room_fine e new = fine_done (rw (eq-eqb (length u) (8 * lines_after c k) (rw (← are) e))) (ap (λ n. Ok (unfolding_is n)) are) new

module _ {c st : List ℕ} {k : ℕ} {u : List ℕ} where
  pub by_rules : {r : Result Unfolding Refusal} {u' : List ℕ} → Done c st k u r u' → UnfoldingMade c st k u r u'
  unfolding unfolding_numbers
  by_rules d = record {
    answer = d.answer;
    numbers = ap unfolding_numbers d.answer ∙ numbers-told _ (refusal (unfold_rules c st k (length u))) (unfolding_is (lines_after c k));
    buffer = d.memory;
  }

  module _ {v : Result Clocked Refusal} (p : ClockedChecked c st k v) where
    -- a refusal is the answer, and leaves the buffer
    pub refused_answer : {why : Refusal} → v ≡ Err why → UnfoldingMade c st k u (Err why) u
    refused_answer told = by_rules (first_refused (clocked_rules c st k) (unfold_room_rules c k (length u)) (clocked_refuses p told))

    -- where there is none, the buffer's size decides
    pub room_answer : {n m : ℕ} {r : Result Unfolding Refusal} {u' : List ℕ} → v ≡ Ok (clocked_are n m) → RoomDone c st k u r u' → UnfoldingMade c st k u r u'
    room_answer told d = by_rules (first_fine (clocked_rules c st k) (unfold_room_rules c k (length u)) (clocked_accepts p told).0.fine d)

-- two results that the promise allows are equal
pub one_result : {c st : List ℕ} {k : ℕ} {u : List ℕ} {r r₂ : Result Unfolding Refusal} {u' u₂ : List ℕ}
    → UnfoldingMade c st k u r u'
    → UnfoldingMade c st k u r₂ u₂
    → (r ≡ r₂) × (u' ≡ u₂)
one_result p q = (cc, cc)

-- What is not refused is well formed: the law that callers use.
-- Assumes nothing.
use mathlib.Core.Path.{◌≡◌, refl, sym, ap, ◌∙◌}
use mathlib.Core.Logic.{⊎_elim}
use mathlib.Core.List.{List}
use Prim.Native.Nat.{ℕ}
use native.Mathlib.Omega.{arith}
use Rattle.ground.proofs.Tests.{either}
use Rattle.answers.specs.Rules.{refusal, AllHold}
use Rattle.answers.proofs.Rules.{all_hold, both_fine, same_good}
use Rattle.answers.proofs.Answer.{ruling_of, was_ruled}
use Rattle.gates.specs.Gate.{pins_of}
use Rattle.gates.proofs.Laws.{gate-pin}
use Rattle.circuit.specs.declared.Counts.{Counts}
use Rattle.circuit.specs.Record.{kind_at, lines_of, inputs_of, outputs_of}
use Rattle.circuit.specs.Layout.{Layout}
use Rattle.circuit.specs.Promise.{layout_rules, count_rules, circuit_rules, check_of, Checks, counts_are}
use Rattle.circuit.specs.Formed.{Lower, Good, Accepts, Known}
use Rattle.circuit.proofs.Says.{circuit_says}
use Rattle.circuit.proofs.FirstLine.{some-input}
use Rattle.std.specs.Prelude.{Ok, Err, Result}
use Rattle.answers.specs.declared.Refusal.{Refusal}

-- a gate has a first pin, so its line is not the lowest, and a source that it lacks is lower too
lower : (c : List ℕ) (k : ℕ) → Layout c k → (kind_at c k ≡ 0 → ⊥) → Lower c k
lower c k l ne s a b =
    let first = (l.pin 1 (omega arith) (omega arith)).has (gate-pin (kind_at c k) ne) in
    ⊎_elim (λ h. omega (arith, (l.pin s a b).lacks h)) (λ h. (l.pin s a b).has h) (either (pins_of (kind_at c k)) s)

pub good : (c : List ℕ) → refusal (circuit_rules c) ≡ Ok tt → Good c
unfolding layout_rules count_rules AllHold
good c e =
    let a = all_hold (circuit_rules c) (circuit_says c) e in
    record {
      some_lines = a.0.some;
      most_lines = a.0.few;
      some_inputs = some-input c (both_fine (layout_rules c) (count_rules (inputs_of c) (outputs_of c)) e).0;
      most_inputs = a.1.1.0;
      some_outputs = a.1.1.1.0;
      well = record {
        size = a.0.multiple;
        kinds = λ k l. (a.1.0 k l).kind;
        lower = λ k l. lower c k (a.1.0 k l);
        inputs_are = refl;
      };
    }

-- what the check's answer says
module _ {c : List ℕ} {r : Result Counts Refusal} where
  was : Checks c r → refusal (circuit_rules c) ≡ ruling_of r
  unfolding check_of
  was p = was_ruled _ p.answer refl

  pub accepts : {n m o : ℕ} → r ≡ Ok (counts_are n m o) → Checks c r → Accepts c n m o
  unfolding check_of
  accepts {n} {m} {o} told p =
      let q : refusal (circuit_rules c) ≡ Ok tt = was p ∙ ap ruling_of told in
      let so : counts_are n m o ≡ counts_are (lines_of c) (inputs_of c) (outputs_of c) = same_good (sym told ∙ p.answer ∙ rw q) in
      record { lines = ap (λ (a : Counts). a.lines) so; inputs = ap (λ (a : Counts). a.inputs) so; outputs = ap (λ (a : Counts). a.outputs) so; fine = q; good = good c q }

  pub refuses : {why : Refusal} → r ≡ Err why → Checks c r → refusal (circuit_rules c) ≡ Err why
  refuses told p = was p ∙ ap ruling_of told

-- where the number of outputs does not matter
pub known : {c : List ℕ} {n m o : ℕ} → Accepts c n m o → Known c n m
known a = rw a.outputs at a

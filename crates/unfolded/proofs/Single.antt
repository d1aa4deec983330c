-- Over one step the unfolded circuit is the circuit, with its data lines as outputs; without state records it is the circuit itself.
-- Assumes nothing.
use mathlib.Core.Path.{◌≡◌, refl, sym, ◌∙◌}
use mathlib.Core.Logic.{⊎_elim}
use mathlib.Core.Bool.{false}
use mathlib.Core.List.{List, []}
use Prim.Native.Nat.{ℕ, ◌*◌, ◌-◌, ◌≤◌, ◌<◌}
use native.Mathlib.Nat.{zero-add, zero-mul, one-mul}
use native.Mathlib.Omega.{arith}
use Rattle.ground.specs.Choose.{choose}
use Rattle.ground.proofs.Tests.{either}
use Rattle.answers.specs.Rules.{refusal}
use Rattle.gates.specs.Gate.{pins_of}
use Rattle.circuit.specs.Record.{lines_of, kind_at, out_at, pin_at}
use Rattle.circuit.specs.Promise.{circuit_rules}
use Rattle.circuit.proofs.Accepted.{good}
use Rattle.states.specs.States.{is_data, free_of}
use Rattle.states.specs.Rules.{GoodSteps}
use Rattle.unfolded.specs.Unfolded.{step_out, unfolded}
use Rattle.unfolded.specs.Words.{Moved}
use Rattle.unfolded.proofs.Fields.{unfolded_long, unfolded_out}
use Rattle.unfolded.proofs.Bytes.{Bytes, same_bytes}
use Rattle.unfolded.proofs.Accepted.{layouts}
use Rattle.unfolded.proofs.Words.{unfolded_words}
use Rattle.std.specs.Prelude.{Ok}

module _ {c st : List ℕ} (fine : refusal (circuit_rules c) ≡ Ok tt) (steps : GoodSteps c st 1) (m : ℕ) (l : m < lines_of c) where
  there : Moved c (unfolded c st 1) m m 0
  there = (unfolded_words fine steps).first m l

  pub single_kind : kind_at (unfolded c st 1) m ≡ kind_at c m
  single_kind = there.kind

  -- a source that the kind lacks is 0 in both
  pub single-pin : (s : ℕ) → 1 ≤ s → s ≤ 3 → pin_at (unfolded c st 1) m s ≡ pin_at c m s
  single-pin s a b =
      ⊎_elim (λ h. there.lacks s h b ∙ sym (((layouts c fine m l).pin s a b).lacks h)) (λ h. there.has s a h ∙ zero-add (pin_at c m s))
      (either (pins_of (kind_at c m)) s)

  pub single_out : out_at (unfolded c st 1) m ≡ choose (is_data st m) 1 (out_at c m)
  unfolding step_out
  single_out = rw (zero-mul, zero-add) at (unfolded_out c st 1 0 m (omega arith) l)

-- ---- without state records

no_data : (m : ℕ) → is_data [] m ≡ false
unfolding is_data
no_data m = refl

module _ {c : List ℕ} (fine : refusal (circuit_rules c) ≡ Ok tt) where
  pub no-states : GoodSteps c [] 1
  no-states =
      let one : 1 * lines_of c ≡ lines_of c = one-mul (lines_of c) in
      let none : (1 - 1) * free_of c [] ≡ 0 = zero-mul (free_of c []) in
      record {
        some_steps = omega arith;
        most_steps = omega arith;
        records = refl;
        layout = λ r l. absurd (omega arith);
        most_lines = omega (arith, (good c fine).most_lines);
        most_inputs = omega (arith, (good c fine).most_inputs);
      }

  pub unfolded-alone : Bytes c → unfolded c [] 1 ≡ c
  unfolded-alone bytes =
      same_bytes (unfolded c [] 1) c (unfolded_words fine no-states).bytes bytes (lines_of c)
      (unfolded_long c [] 1 ∙ rw (one-mul (lines_of c))) (good c fine).well.size
      (λ m l. record {
        kind = single_kind fine no-states m l;
        out = single_out fine no-states m l ∙ rw (no_data m);
        pin = single-pin fine no-states m l;
      })

-- The rules of a clocked circuit: tests and words agree, and what is not refused is good.
-- Assumes nothing.
use mathlib.Core.Path.{◌≡◌}
use mathlib.Core.List.{List}
use Prim.Native.Nat.{ℕ, ◌*◌, ◌%◌}
use native.Mathlib.Omega.{arith}
use lib.Dec.{eqb}
use lib.ListN.{length}
use borrow.Author.Tests.{eqb-true, eq-eqb}
use Rattle.ground.specs.Below.{any_below}
use Rattle.answers.specs.Rules.{refusal, Same, AllSay, AllHold}
use Rattle.answers.proofs.Rules.{all_hold, both_say}
use Rattle.answers.proofs.Same.{le_same, lt_same, eq_same, and_same, some_same, never_same}
use Rattle.circuit.specs.Record.{kind_at, lines_of}
use Rattle.circuit.specs.Promise.{circuit_rules}
use Rattle.circuit.proofs.Says.{circuit_says}
use Rattle.states.specs.States.{state_count, data_line, state_line}
use Rattle.states.specs.Rules.{state_ok, StateLayout, lines_after, inputs_after, state_rules, after_rules, step_rules, clocked_rules, GoodSteps}
use Rattle.std.specs.Prelude.{Ok}

module _ (c st : List ℕ) where
  -- a record keeps its layout exactly if the test holds
  pub state_ok_same : (r : ℕ) → Same (state_ok c st r) (StateLayout c st r)
  unfolding state_ok
  state_ok_same r =
      let seen = some_same r (λ q. eq_same (state_line st q) (state_line st r)) in
      let same =
      and_same (lt_same (data_line st r) (lines_of c))
      (and_same (lt_same (state_line st r) (lines_of c))
      (and_same (eq_same (kind_at c (state_line st r)) 0)
      (never_same (any_below r (λ q. eqb (state_line st q) (state_line st r))) seen))) in
      record {
        holds = λ e.
            let l = same.holds e in
            record { data_inside = l.0; state_inside = l.1.0; input = l.1.1.0; once = λ q b i. l.1.1.1 (q, b, i) };
        tests = λ l. same.tests (l.data_inside, (l.state_inside, (l.input, λ w. l.once w.0 w.1 w.2)));
      }

  -- whole records
  whole_same : Same (eqb (length st % 4) 0) (length st ≡ 4 * state_count st)
  whole_same = record {
    holds = λ e. omega (arith, eqb-true (length st % 4) 0 e);
    tests = λ e. eq-eqb (length st % 4) 0 (omega arith);
  }

  module _ (k : ℕ) where
    pub steps_say : AllSay (step_rules c st k)
    unfolding step_rules state_rules after_rules AllSay
    steps_say = (
      and_same (le_same 1 k) (le_same k 8),
      (whole_same, ((λ r l. state_ok_same r), (and_same (le_same (lines_after c k) 2048) (le_same (inputs_after c st k) 64), tt))),
    )

    pub clocked_says : AllSay (clocked_rules c st k)
    clocked_says = both_say (circuit_rules c) (step_rules c st k) (circuit_says c) steps_say

    pub good_steps : refusal (step_rules c st k) ≡ Ok tt → GoodSteps c st k
    unfolding step_rules state_rules after_rules AllHold
    good_steps e =
        let a = all_hold (step_rules c st k) steps_say e in
        record {
          some_steps = a.0.0;
          most_steps = a.0.1;
          records = a.1.0;
          layout = a.1.1.0;
          most_lines = a.1.1.1.0.0;
          most_inputs = a.1.1.1.0.1;
        }

-- The promise of the search: reached from its parts, and met by one result only.
-- Assumes nothing.
use mathlib.Core.Path.{◌≡◌, refl, sym, ap, ◌∙◌}
use mathlib.Core.List.{List}
use Prim.Native.Nat.{ℕ, ◌*◌, ◌≤◌}
use native.Mathlib.Omega.{arith}
use lib.ListN.{length, length-replicate}
use Rattle.answers.specs.Rules.{Ruling}
use Rattle.answers.specs.Rules.{Rule, refusal}
use Rattle.answers.proofs.Rules.{both_fine}
use Rattle.answers.proofs.Lent.{lent_sizes}
use Rattle.answers.proofs.Answer.{numbers-told, fine_done, memory_part}
use Rattle.circuit.specs.Record.{inputs_of, Inside}
use Rattle.circuit.specs.Formed.{Known}
use Rattle.lists.specs.declared.Fault.{Fault}
use Rattle.lists.specs.Faults.{fault_at, fault_rules}
use Rattle.lists.proofs.Faults.{good_faults}
use Rattle.nodes.specs.declared.Verdict.{Verdict}
use Rattle.nodes.specs.Node.{start}
use Rattle.nodes.proofs.Node.{start_is}
use Rattle.sides.specs.Look.{look_of, look_work}
use Rattle.sides.proofs.Look.{prepared}
use Rattle.search.specs.Promise.{search_rest_rules, search_rules, verdict_for, test_for, work_for, searched_numbers, Searches}
use Rattle.search.specs.Owed.{RunReady, RunDone, SearchedBy}
use Rattle.std.specs.Prelude.{Ok, Result}
use Rattle.answers.specs.declared.Refusal.{Refusal}

-- ---- what is not refused can be searched

module _ (c f : List ℕ) (n inputs test work : ℕ) (fine : refusal (search_rest_rules c f inputs n test work) ≡ Ok tt) where
  pub fault_inside : Inside f 0
  fault_inside =
      let g = good_faults 1 c f (both_fine (fault_rules 1 c f) _ fine).0 in
      record { inside = omega (arith, g.records.some, g.records.multiple) }

  pub runs : {at : Fault} → at ≡ fault_at f 0 → Known c n inputs → (inputs ≤ 64) × RunReady c at n (start inputs) test work
  runs at_is known =
      let lines = known.lines in
      let inputs-is = known.inputs in
      let good = known.good in
      let b = both_fine (fault_rules 1 c f) _ fine in
      let g = good_faults 1 c f b.0 in
      let layout = g.faults 0 (omega (arith, g.records.some)) in
      let l = lent_sizes inputs test (2 * n) work b.1 in (
        rw inputs-is good.most_inputs,
        record {
          ready = prepared _ c n work (rw lines good.well) (rw (at_is, lines) layout.line) (rw at_is layout.value) (omega (arith, l.1));
          node = rw (lines, inputs-is) (start_is (inputs_of c));
          test_size = l.0 ∙ sym (length-replicate inputs 2);
        },
      )

-- ---- where nothing is refused, what the run leaves is owed

pub rest_fine : {rules : List Rule} {c : List ℕ} {inputs n b : ℕ} {t w : List ℕ} {at fault : Fault} {r : Verdict} {t' w' : List ℕ}
    → refusal rules ≡ Ok tt
    → at ≡ fault
    → Known c n inputs
    → RunDone (look_of at c n) (look_work at c n) (start inputs) b t w r t' w'
    → SearchedBy rules c fault b t w (Ok r) t' w'
unfolding verdict_for test_for work_for
rest_fine e at_is known p =
    fine_done e
    (rw (← known.inputs, ← known.lines, ← at_is, p.verdict))
    (rw (← known.inputs, ← known.lines, ← at_is, p.test, p.verdict, p.work))

-- ---- the promise

module _ {c f : List ℕ} {b : ℕ} {t w : List ℕ} where
  pub searches : {r : Result Verdict Refusal} {t' w' : List ℕ} → SearchedBy (search_rules c f (length t) (length w)) c (fault_at f 0) b t w r t' w' → Searches c f b t w r t' w'
  unfolding searched_numbers
  searches p = record {
    answer = p.answer;
    numbers = ap searched_numbers p.answer ∙ numbers-told _ (refusal (search_rules c f (length t) (length w))) _;
    test = memory_part (λ (lent : List ℕ × List ℕ). lent.0) p;
    work = memory_part (λ (lent : List ℕ × List ℕ). lent.1) p;
  }

  -- two allowed results are equal
  pub one_result : {r s : Result Verdict Refusal} {t' t'' w' w'' : List ℕ} → Searches c f b t w r t' w' → Searches c f b t w s t'' w'' → (r ≡ s) × (t' ≡ t'') × (w' ≡ w'')
  one_result p q = (cc, cc, cc)

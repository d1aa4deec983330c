-- The results of some faults, where the memory of others is lent on: what the searches need, and that the rest stays.
-- Assumes nothing.
use mathlib.Core.Path.{◌≡◌, sym, ap, ◌∙◌}
use mathlib.Core.List.{List, ◌++◌}
use Prim.Native.Nat.{ℕ, ◌+◌, ◌*◌, ◌≤◌, ◌<◌}
use native.Mathlib.Nat.{mul-le-mul_right}
use native.Mathlib.Omega.{arith}
use lib.ListN.{length, get_or, take, drop, set, length-replicate, take-append-drop, get_or-append}
use lib.Seq.{length-take-le, get_or-set_same, get_or-set_other}
use Rattle.circuit.specs.Record.{inputs_of, Inside}
use Rattle.lists.specs.declared.Fault.{Fault}
use Rattle.lists.specs.Faults.{fault_count, fault_at}
use Rattle.lists.specs.Patterns.{pattern_at}
use Rattle.lists.proofs.Patterns.{part_fits}
use Rattle.lists.proofs.Parts.{lent, back, lent_long, lent_piece, piece_before, apart, back-same, back_other}
use Rattle.simulate.proofs.Settled.{shaped}
use Rattle.nodes.specs.declared.Verdict.{Verdict}
use Rattle.nodes.specs.Node.{start}
use Rattle.nodes.specs.Walk.{Looks}
use Rattle.nodes.specs.Budget.{nodes_of}
use Rattle.nodes.proofs.Node.{start_is}
use Rattle.standings.specs.Outcome.{outcome_of}
use Rattle.sides.specs.Look.{look_of, look_work}
use Rattle.sides.specs.Owed.{SideReady}
use Rattle.sides.proofs.Look.{prepared}
use Rattle.search.specs.Owed.{RunReady, RunDone}
use Rattle.meetings.specs.Owed.{ListReady}
use Rattle.walks.specs.Owed.{ListDone}
use Rattle.list_search.specs.Owed.{SearchesReady, OthersDone, OneDone}
use Rattle.list_search.proofs.Pieces.{other_before, other_places}

-- what is ready for lists is so for others of the same lengths
pub still_ready : {c fs : List ℕ} {n inputs budgets o k t w o' k' t' w' : ℕ}
    → SearchesReady c fs n inputs budgets o k t w
    → o' ≡ o
    → k' ≡ k
    → t' ≡ t
    → w' ≡ w
    → SearchesReady c fs n inputs budgets o' k' t' w'
still_ready r a b c d = rw (a, b, c, d) r

module _ {c fs : List ℕ} {n inputs b o k t w : ℕ} (r : SearchesReady c fs n inputs b o k t w) {at : ℕ} (h : at < fault_count fs) where
  -- the record and the part of the tests that belong to the fault `at`
  pub record_inside : Inside fs at
  record_inside = record { inside = omega (arith, r.faults.records.multiple) }

  pub part_inside : at * inputs + inputs ≤ t
  part_inside = omega (arith, part_fits at (fault_count fs) inputs h, r.tests_are)

  -- and what a node says of it
  pub side-ready : SideReady c (fault_at fs at) n w
  side-ready =
      let known = r.known in
      let layout = r.faults.faults at h in
      prepared (fault_at fs at) c n w (rw known.lines known.good.well) (rw known.lines layout.line) layout.value r.two

  pub looks_at_lem : Looks inputs (look_of (fault_at fs at) c n)
  looks_at_lem = rw (r.known.inputs, r.known.lines) (rw r.known.lines at side-ready.looks)

-- ---- the faults below it: the first places of each list are lent on

module _ {c fs : List ℕ} {n inputs b : ℕ} (os ks ts : List ℕ) {w : ℕ} (r : SearchesReady c fs n inputs b (length os) (length ks) (length ts) w) {at : ℕ} (h : at < fault_count fs) where
  pub first_outcomes : length (take at os) ≡ at
  first_outcomes = length-take-le at os (omega (arith, r.outcomes_are))

  pub first_counts : length (take at ks) ≡ at
  first_counts = length-take-le at ks (omega (arith, r.counts_are))

  pub first_tests : length (take (at * inputs) ts) ≡ at * inputs
  first_tests = length-take-le (at * inputs) ts (omega (arith, part_inside r h))

  part_of_first : (j : ℕ) → j < at → pattern_at inputs ts j ≡ pattern_at inputs (take (at * inputs) ts) j
  part_of_first j l =
      ap (λ (x : List ℕ). pattern_at inputs x j) (sym (take-append-drop (at * inputs) ts))
      ∙ piece_before inputs j (take (at * inputs) ts) (drop (at * inputs) ts) (rw first_tests (apart inputs j at l))

  pub others-ready : ListReady c fs n inputs b (length (take at os)) (length (take at ks)) (length (take (at * inputs) ts)) w
  others-ready =
      let known = r.known in
      record {
        shaped = shaped (rw (known.lines, known.inputs) known.good.well);
        faults = omega (arith, first_outcomes, r.faults.records.multiple);
        lines = λ j l. rw known.lines (r.faults.faults j (omega (arith, first_outcomes))).line;
        values = λ j l. (r.faults.faults j (omega (arith, first_outcomes))).value;
        looks = λ j l. looks_at_lem r (omega (arith, first_outcomes));
        most = rw known.inputs known.good.most_inputs;
        most_lines = rw known.lines known.good.most_lines;
        most_faults = omega (arith, first_outcomes, r.faults.records.few, r.faults.records.multiple);
        budgets_are = omega (arith, first_outcomes, r.budgets_are);
        counts_are = first_counts ∙ sym first_outcomes;
        tests_are = first_tests ∙ rw first_outcomes;
        two = r.two;
      }

  -- what the walk leaves there comes back, and nothing else has changed
  pub others-done : {bs : List ℕ} (vo vk vt : List ℕ)
      → length vo ≡ length (take at os)
      → length vk ≡ length (take at ks)
      → length vt ≡ length (take (at * inputs) ts)
      → ListDone c fs bs n inputs (take (at * inputs) ts) vo vk vt
      → OthersDone c fs bs n inputs at (os, ks, ts) (vo ++ drop at os, vk ++ drop at ks, vt ++ drop (at * inputs) ts)
  others-done vo vk vt o k t done = record {
    ended = λ j l.
        rw (
          get_or-append vo (drop at os) 0 j (omega (arith, first_outcomes)),
          get_or-append vk (drop at ks) 0 j (omega (arith, first_counts)),
          piece_before inputs j vt (drop (at * inputs) ts) (rw (t, first_tests) (apart inputs j at l)),
          part_of_first j l,
        )
        (done j (omega (arith, first_outcomes)));
    same = λ j l.
        let above : at * inputs ≤ j * inputs = mul-le-mul_right inputs l in
        record {
          reach = other_places j vo (take at os) (drop at os) o (omega (arith, first_outcomes)) ∙ rw (take-append-drop at os);
          count = other_places j vk (take at ks) (drop at ks) k (omega (arith, first_counts)) ∙ rw (take-append-drop at ks);
          test =
              other_before inputs j vt (take (at * inputs) ts) (drop (at * inputs) ts) t (omega (arith, first_tests))
              ∙ rw (take-append-drop (at * inputs) ts);
        };
  }

-- ---- the fault itself: its part of the tests is lent on

module _ {c fs : List ℕ} {n inputs b o k : ℕ} (ts : List ℕ) {w : ℕ} (r : SearchesReady c fs n inputs b o k (length ts) w) {at : ℕ} (h : at < fault_count fs) where
  pub one-ready : {fault : Fault} → fault ≡ fault_at fs at → (inputs ≤ 64) × RunReady c fault n (start inputs) (length (lent (at * inputs) inputs ts)) w
  one-ready {fault} e =
      let known = r.known in (
        rw known.inputs known.good.most_inputs,
        record {
          ready = rw e (side-ready r h);
          node = rw (known.lines, known.inputs) (start_is (inputs_of c));
          test_size = lent_long (at * inputs) inputs ts (part_inside r h) ∙ sym (length-replicate inputs 2);
        },
      )

module _ {c fs : List ℕ} {n inputs b : ℕ} (os ks ts : List ℕ) {room : ℕ} (r : SearchesReady c fs n inputs b (length os) (length ks) (length ts) room) {at : ℕ} (h : at < fault_count fs) where
  -- its search leaves its results there, and those of the others
  pub one-done : {fault : Fault} {bs w : List ℕ} {budget o k : ℕ} {found : Verdict} (v : List ℕ) {w' : List ℕ}
      → fault ≡ fault_at fs at
      → budget ≡ get_or bs at 0
      → length v ≡ length (lent (at * inputs) inputs ts)
      → RunDone (look_of fault c n) (look_work fault c n) (start inputs) budget (lent (at * inputs) inputs ts) w found v w'
      → o ≡ outcome_of found
      → k ≡ nodes_of found
      → OneDone c fs bs n inputs at (os, ks, ts) w (set os at o, set ks at k, back (at * inputs) inputs ts v) w'
  one-done {o = o} {k = k} v e f same-long done oe ke =
      let fits = part_inside r h in
      let long = same-long ∙ lent_long (at * inputs) inputs ts fits in
      record {
        ended = record {
          outcome_is = get_or-set_same os at o 0 (omega (arith, r.outcomes_are)) ∙ oe ∙ rw (← e, ← f) (ap outcome_of done.verdict);
          count_is = get_or-set_same ks at k 0 (omega (arith, r.counts_are)) ∙ ke ∙ rw (← e, ← f) (ap nodes_of done.verdict);
          test_is = back-same inputs ts v at fits long ∙ rw (← e, ← f, ← done.verdict, ← lent_piece inputs ts at) done.test;
        };
        same = λ j ne. record {
          reach = get_or-set_other os at j o 0 ne;
          count = get_or-set_other ks at j k 0 ne;
          test = back_other inputs ts v at j fits long ne;
        };
        work = rw (← e, ← f) done.work;
      }

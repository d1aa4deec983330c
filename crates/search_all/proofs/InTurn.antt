-- The search for a list is the same as calling the search for each fault in turn: no single call refuses, and each leaves what the one call does.
-- Assumes nothing.
use mathlib.Core.Path.{◌≡◌, refl, sym, ap, ◌∙◌}
use mathlib.Core.Logic.{⊎_elim}
use mathlib.Core.List.{List}
use Prim.Native.Nat.{ℕ, zero, suc, ◌+◌, ◌*◌, ◌≤◌, ◌<◌}
use native.Mathlib.Omega.{arith}
use lib.ListN.{length, get_or, drop, length-take, length-drop}
use lib.Seq.{get_or-take, get_or-drop}
use Rattle.ground.proofs.Tests.{either}
use Rattle.answers.specs.Rules.{refusal, AllHold}
use Rattle.answers.specs.Area.{success}
use Rattle.answers.proofs.Rules.{fine, after_fine}
use Rattle.answers.proofs.Lent.{lent_fine}
use Rattle.little.specs.Little.{pair_at}
use Rattle.circuit.specs.Record.{lines_of, inputs_of}
use Rattle.circuit.specs.Promise.{circuit_rules}
use Rattle.lists.specs.declared.Fault.{Fault}
use Rattle.lists.specs.Faults.{fault_count, fault_line, fault_at, FaultLayout, fault_rules}
use Rattle.lists.specs.Patterns.{pattern_at}
use Rattle.lists.proofs.Faults.{faults_say}
use Rattle.simulate.specs.Simulate.{stuck_at}
use Rattle.simulate.proofs.Work.{both-length}
use Rattle.nodes.specs.declared.Verdict.{Verdict}
use Rattle.nodes.specs.declared.Verdict.TheVariants.{Test, Redundant, GivenUp}
use Rattle.nodes.specs.Node.{start}
use Rattle.nodes.specs.Order.{trail}
use Rattle.nodes.specs.Budget.{nodes_of}
use Rattle.nodes.proofs.Budget.{of_b_th, of_last}
use Rattle.standings.specs.Outcome.{outcome_of}
use Rattle.sides.specs.Look.{look_work}
use Rattle.search.specs.Promise.{search_rules, look, work_for, verdict_numbers, searched_numbers, Searches}
use Rattle.search.proofs.Answer.{one_result}
use Rattle.list_search.specs.Works.{works_to}
use Rattle.search_all.specs.Promise.{verdict_at, SearchesAll}
use Rattle.search_all.specs.InTurn.{record_at, CallsInTurn, SameAsAll}
use Rattle.list_search.proofs.Works.{work_none}
use Rattle.search_all.proofs.Each.{circuit_fine, list_ready, part_long, outcome_at, count_at, test_at, work_all}
use Rattle.std.specs.Prelude.{Ok, Result}
use Rattle.answers.specs.declared.Refusal.{Refusal}

-- ---- a record on its own

module _ (fs : List ℕ) (i : ℕ) where
  record_byte : (x : ℕ) → x < 8 → get_or (record_at fs i) x 0 ≡ get_or fs (8 * i + x) 0
  record_byte x h = get_or-take 8 (drop (8 * i) fs) x 0 h ∙ get_or-drop (8 * i) fs x 0

  record_pair : (x : ℕ) → x + 1 < 8 → pair_at (record_at fs i) x ≡ pair_at fs (8 * i + x)
  unfolding pair_at
  record_pair x h =
      let e : 8 * i + (x + 1) ≡ 8 * i + x + 1 = omega arith in
      rw (record_byte x (omega arith), record_byte (x + 1) h, e)

  record_line : fault_line (record_at fs i) 0 ≡ fault_line fs i
  record_line = let e : 8 * i + 0 ≡ 8 * i = omega arith in record_pair 0 (omega arith) ∙ rw e

  pub record_fault : fault_at (record_at fs i) 0 ≡ fault_at fs i
  record_fault = rw (record_line, record_byte 2 (omega arith), record_byte 3 (omega arith))

  record_layout : {c : List ℕ} → FaultLayout c fs i → FaultLayout c (record_at fs i) 0
  record_layout l = record {
    line = rw record_line l.line;
    site = rw (record_line, record_byte 2 (omega arith)) l.site;
    value = rw (record_byte 3 (omega arith)) l.value;
    low = record_pair 4 (omega arith) ∙ l.low;
    high = record_pair 6 (omega arith) ∙ l.high;
  }

  record_fine : (c : List ℕ) → 8 * i + 8 ≤ length fs → FaultLayout c fs i → refusal (fault_rules 1 c (record_at fs i)) ≡ Ok tt
  unfolding fault_rules AllHold
  record_fine c h l =
      let long : length (record_at fs i) ≡ 8 = simp (length-take, length-drop) (omega arith) in
      fine (fault_rules 1 c (record_at fs i)) (faults_say 1 c (record_at fs i)) (
        rw long (record { multiple = omega arith; some = omega arith; few = omega arith }),
        ((λ j b. let e : j ≡ 0 = omega (arith, long) in rw e (record_layout l)), tt),
      )

-- ---- a single search leaves as much work memory as there was

work_long : (c : List ℕ) (fault : Fault) (b : ℕ) (w : List ℕ) → length w ≡ lines_of c + lines_of c → length (work_for c fault b w) ≡ lines_of c + lines_of c
unfolding work_for look_work
work_long c fault b w e =
    ⊎_elim
    (λ (h : 0 < b).
    ⊎_elim
    (λ l. ap length (of_b_th (look c fault) (look_work fault c (lines_of c)) w (start (inputs_of c)) b h (omega arith)) ∙ both-length c _ (lines_of c) (stuck_at fault))
    (λ l. ap length (of_last (look c fault) (look_work fault c (lines_of c)) w (start (inputs_of c)) b h l) ∙ both-length c _ (lines_of c) (stuck_at fault))
    (either b (length (trail (look c fault) (start (inputs_of c))))))
    (λ h. let z : b ≡ 0 = omega arith in rw z (ap length (work_none c fault w) ∙ e))
    (either 0 b)

-- ---- the paper's numbers of a verdict

numbers_are : (v : Verdict) → verdict_numbers v ≡ success (outcome_of v) (nodes_of v) 0
numbers_are (Test k) = refl
numbers_are (Redundant k) = refl
numbers_are (GivenUp k) = refl

-- ---- the calls

module _ {c fs bs o k t w o' k' t' w' : List ℕ} (p : SearchesAll c fs bs o k t w (Ok tt) o' k' t' w') where
  -- the search for the record of fault i refuses nothing, where the work memory v has its size
  single_fine : (i : ℕ) → i < fault_count fs → (v : List ℕ) → length v ≡ lines_of c + lines_of c → refusal (search_rules c (record_at fs i) (length (pattern_at (inputs_of c) t i)) (length v)) ≡ Ok tt
  single_fine i h v e =
      let r = list_ready p in
      after_fine (circuit_rules c) _ (circuit_fine p)
      ∙ after_fine (fault_rules 1 c (record_at fs i)) _ (record_fine fs i c (omega (arith, r.faults.records.multiple)) (r.faults.faults i h))
      ∙ lent_fine (inputs_of c) (length (pattern_at (inputs_of c) t i)) (2 * lines_of c) (length v) (part_long p i h) (omega arith)

  -- so what the one call leaves for fault i is what that search promises
  pub single : (i : ℕ) → i < fault_count fs → (v : List ℕ) → length v ≡ lines_of c + lines_of c → Searches c (record_at fs i) (get_or bs i 0) (pattern_at (inputs_of c) t i) v
      (Ok (verdict_at c fs bs i)) (pattern_at (inputs_of c) t' i) (work_for c (fault_at fs i) (get_or bs i 0) v)
  unfolding searched_numbers
  single i h v e =
      let fine-is = single_fine i h v e in
      record {
        answer = rw (fine-is, record_fault fs i);
        numbers = rw (fine-is, record_fault fs i);
        test = test_at p i h ∙ rw (fine-is, record_fault fs i);
        work = rw (fine-is, record_fault fs i);
      }

  works_long : (i : ℕ) → length (works_to c fs bs w i) ≡ lines_of c + lines_of c
  unfolding works_to
  works_long zero = (list_ready p).two
  works_long (suc i) = work_long c (fault_at fs i) (get_or bs i 0) (works_to c fs bs w i) (works_long i)

  -- there are such calls, one after the other
  pub in_turn : CallsInTurn c fs bs t w (λ i. Ok (verdict_at c fs bs i)) (pattern_at (inputs_of c) t') (works_to c fs bs w)
  unfolding works_to
  in_turn = record { first = refl; call = λ i h. single i h (works_to c fs bs w i) (works_long i) }

  module _ {a : ℕ → Result Verdict Refusal} {u v : ℕ → List ℕ} (calls : CallsInTurn c fs bs t w a u v) where
    -- and they are the only ones
    equal : (i : ℕ) → i < fault_count fs → v i ≡ works_to c fs bs w i
        → (a i ≡ Ok (verdict_at c fs bs i)) × (u i ≡ pattern_at (inputs_of c) t' i) × (v (suc i) ≡ works_to c fs bs w (suc i))
    equal i h e = one_result (rw e at (calls.call i h)) (in_turn.call i h)

    before : (i : ℕ) → i ≤ fault_count fs → v i ≡ works_to c fs bs w i
    unfolding works_to
    before zero h = calls.first
    before (suc i) h = (equal i h (before i (omega arith))).2

    -- all faults of a list in one call, equal to single calls one after the other
    pub same_as_all : SameAsAll c fs a u v o' k' t' w'
    unfolding searched_numbers
    same_as_all = record {
      numbers = λ i h. rw ((equal i h (before i (omega arith))).0, outcome_at p i h, count_at p i h) (numbers_are (verdict_at c fs bs i));
      tests = λ i h. (equal i h (before i (omega arith))).1;
      work = before (fault_count fs) (omega arith) ∙ sym (work_all p);
    }

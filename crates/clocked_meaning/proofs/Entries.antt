-- Fail, pass and unknown over several steps in the Boolean meaning: of any pattern and fault of an accepted clocked circuit, and of the table's bytes.
-- Assumes nothing.
use mathlib.Core.Path.{◌≡◌, sym, ap, ◌∙◌}
use mathlib.Core.List.{List}
use Prim.Native.Nat.{ℕ, ◌+◌, ◌*◌, ◌<◌}
use native.Mathlib.Omega.{arith}
use lib.ListN.{length, get_or}
use Rattle.ground.specs.Choose.{one}
use Rattle.ground.proofs.Tests.{one_same}
use Rattle.answers.specs.Rules.{refusal}
use Rattle.circuit.specs.Record.{lines_of}
use Rattle.circuit.specs.Promise.{circuit_rules}
use Rattle.circuit.specs.Formed.{WellFormed, Good}
use Rattle.circuit.proofs.Accepted.{good}
use Rattle.lists.specs.Faults.{fault_count, fault_at, FaultLayout}
use Rattle.lists.specs.Patterns.{pattern_count, pattern_at}
use Rattle.lists.proofs.Patterns.{pattern_whole}
use Rattle.simulate.specs.Simulate.{unforced, stuck_at, values_to}
use Rattle.simulate.specs.Boolean.{Vector}
use Rattle.simulate.specs.Vectors.{NoX, Fills}
use Rattle.simulate.specs.Work.{good_of}
use Rattle.simulate.specs.Owed.{AllSmall}
use Rattle.simulate.proofs.Keeps.{unforced_keeps, stuck_keeps}
use Rattle.simulate.proofs.Steps.{steps_keep}
use Rattle.simulate.proofs.Known.{values_known}
use Rattle.tables.specs.Entries.{pass, fail, unknown}
use Rattle.entry.specs.Entry.{entry_under}
use Rattle.entry.specs.Words.{Differ, Agree}
use Rattle.entry.proofs.Words.{expected_passes, entry_small}
use Rattle.entry.proofs.Decided.{known_decided}
use Rattle.states.specs.Rules.{lines_after, inputs_after, GoodSteps}
use Rattle.unfolded.specs.Unfolded.{unfolded}
use Rattle.unfolded.proofs.Accepted.{unfolded-formed}
use Rattle.clocked.proofs.EveryStep.{good-filled, faulty-filled}
use Rattle.unfold_dictionary.specs.Promise.{in_every_step, steps_table, StepsDictionary}
use Rattle.unfold_dictionary.specs.Words.{LookedIn, values_in, ThereHolds}
use Rattle.unfold_dictionary.proofs.Checked.{steps_taken}
use Rattle.unfold_dictionary.proofs.Entries.{good-there, fail-looked, pass-looked}
use Rattle.unfold_dictionary.proofs.Says.{layout, small, made_by_rows}
use Rattle.clocked_meaning.specs.Entries.{EqualThere, DetectsInSteps, ExposesInSteps, ClearsInSteps, StepsMean}
use Rattle.std.specs.Prelude.{Ok}

module _ {c st : List ℕ} {k : ℕ} (fine : refusal (circuit_rules c) ≡ Ok tt) (steps : GoodSteps c st k) (fs : List ℕ) (j : ℕ) (keeps : FaultLayout c fs j) (p : List ℕ)
    (three : AllSmall p) (long : length p ≡ inputs_after c st k) where
  accepted : Good c
  accepted = good c fine

  -- what the values of a line in a step say of the truths there, under every filling of the pattern's X's
  module _ (x : Vector) (fills : Fills p x) (i m : ℕ) (w : LookedIn c st k i m) where
    differ-there : ThereHolds Differ (fault_at fs j) c st p i m → EqualThere c st (fault_at fs j) x i m → ⊥
    differ-there d q =
        d.differ
        (sym (good-filled accepted steps p three long x fills i m w.step w.line d.good_known)
        ∙ ap one q
        ∙ faulty-filled accepted steps p three long x fills i m w.step w.line fs j keeps d.faulty_known)

    agree-there : ThereHolds Agree (fault_at fs j) c st p i m → EqualThere c st (fault_at fs j) x i m
    agree-there h =
        one_same _ _
        (good-filled accepted steps p three long x fills i m w.step w.line h.good_known
        ∙ h.equal
        ∙ sym (faulty-filled accepted steps p three long x fills i m w.step w.line fs j keeps h.faulty_known))

  abbrev entry : ℕ
  entry = entry_under (in_every_step c (fault_at fs j)) (unfolded c st k) p (lines_after c k)

  exposes_is : entry ≡ fail → ExposesInSteps c st (fault_at fs j) k p
  exposes_is e =
      let w = fail-looked accepted steps p three fs j keeps e in
      record {
        step = w.0;
        line = w.1;
        compared = record { looked = w.2; known = w.3.good_known };
        differ = λ x fills. differ-there x fills w.0 w.1 w.2 w.3;
      }

  each : entry ≡ fail → (x : Vector) → Fills p x → DetectsInSteps c st (fault_at fs j) k x
  each e x fills =
      let s = exposes_is e in
      record { step = s.step; line = s.line; looked = s.compared.looked; differ = s.differ x fills }

  clears_is : entry ≡ pass → ClearsInSteps c st (fault_at fs j) k p
  clears_is e x fills i m h = agree-there x fills i m h.looked (pass-looked accepted steps p three fs j keeps e i m h.looked h.known)

  -- without X every value is known
  formed : WellFormed (unfolded c st k) (length p) (lines_after c k)
  formed = rw long (unfolded-formed fine steps)

  good_known : NoX p → (q : ℕ) → get_or (good_of (unfolded c st k) p (lines_after c k)) q 0 < 2
  good_known = values_known unforced (unforced_keeps 2) (unfolded c st k) p (lines_after c k) formed

  faulty_known : NoX p → (q : ℕ) → get_or (values_to (in_every_step c (fault_at fs j)) (unfolded c st k) p (lines_after c k)) q 0 < 2
  faulty_known =
      let kept = stuck_keeps 2 (fault_at fs j) (omega (arith, keeps.value)) in
      values_known (in_every_step c (fault_at fs j)) (steps_keep 2 (lines_of c) (stuck_at (fault_at fs j)) kept) (unfolded c st k) p (lines_after c k) formed

  decided_is : NoX p → entry ≡ unknown → ⊥
  unfolding entry_under
  decided_is full = known_decided expected_passes (unfolded c st k) _ _ (lines_after c k) (λ q _ _. (good_known full q, faulty_known full q))

  -- so every line that is looked at is compared
  none : NoX p → entry ≡ pass → (x : Vector) → Fills p x → DetectsInSteps c st (fault_at fs j) k x → ⊥
  none full e x fills d =
      let there = good-there accepted steps p three d.step d.line d.looked.step d.looked.line in
      let known : get_or (values_in unforced c st p d.step) d.line 0 < 2 = rw there at (good_known full (d.step * lines_of c + d.line)) in
      d.differ (clears_is e x fills d.step d.line (record { looked = d.looked; known = known }))

  -- of an accepted clocked circuit, a fault in its layout, and any pattern of the inputs after unfolding
  pub entry_mean : StepsMean entry c st (fault_at fs j) k p
  entry_mean = record {
    each_detects = each;
    exposes = exposes_is;
    clears = clears_is;
    decided = decided_is;
    undetected = λ full x fills. (λ e. none full e x fills, λ not. go not (decided_is full) (λ e. each e x fills));
  }
    where
      go : {A : Type 0} → (A → ⊥) → (entry ≡ unknown → ⊥) → (entry ≡ fail → A) → entry ≡ pass
      go not known detects =
          let n1 : entry ≡ fail → ⊥ = λ e. not (detects e) in
          omega (arith, entry_small (in_every_step c (fault_at fs j)) (unfolded c st k) p (lines_after c k))

-- of the table that the dictionary maker leaves: the byte of pattern i and fault j
pub steps_dictionary_means : {c st : List ℕ} {k : ℕ} {fs ps t w t' w' : List ℕ}
    → StepsDictionary c st k fs ps t w (Ok tt) t' w'
    → (i j : ℕ)
    → i < pattern_count (inputs_after c st k) ps
    → j < fault_count fs
    → StepsMean (get_or t' (i * fault_count fs + j) 0) c st (fault_at fs j) k (pattern_at (inputs_after c st k) ps i)
steps_dictionary_means {c} {st} {k} {fs} {ps} {t} {w} {t'} d i j a b =
    let q = sym d.answer in
    let taken = steps_taken c st k fs ps (length t) (length w) q in
    let table : t' ≡ steps_table c st k fs ps = d.table ∙ rw q in
    rw (table, (made_by_rows taken).entry i j a b)
    (entry_mean taken.clocked.circuit_fine taken.clocked.steps fs j (layout taken j b) (pattern_at (inputs_after c st k) ps i) (small taken i)
    (pattern_whole ps taken.rest.patterns.records a))

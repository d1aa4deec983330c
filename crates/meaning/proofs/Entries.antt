-- Fail, pass and unknown in the Boolean meaning: of any pattern and fault of an accepted circuit, and of the table's bytes.
-- Assumes nothing.
use mathlib.Core.Path.{◌≡◌, refl, sym}
use mathlib.Core.List.{List}
use Prim.Native.Nat.{ℕ, zero, suc, ◌+◌, ◌*◌, ◌≤◌, ◌<◌}
use native.Mathlib.Omega.{arith}
use lib.Dec.{eqb}
use lib.ListN.{length, get_or}
use borrow.Author.Tests.{eq-eqb, eqb-true}
use Rattle.ground.specs.Choose.{one}
use Rattle.answers.specs.Rules.{refusal}
use Rattle.gates.specs.Gate.{Refines}
use Rattle.circuit.specs.Record.{lines_of, inputs_of}
use Rattle.circuit.specs.Promise.{circuit_rules}
use Rattle.circuit.specs.Formed.{WellFormed}
use Rattle.circuit.proofs.Accepted.{good}
use Rattle.lists.specs.declared.Fault.{Fault}
use Rattle.lists.specs.Faults.{fault_count, fault_at, FaultLayout}
use Rattle.lists.specs.Patterns.{pattern_count, pattern_at}
use Rattle.lists.specs.Both.{list_rules}
use Rattle.lists.proofs.Patterns.{pattern_whole}
use Rattle.lists.proofs.Both.{good_lists}
use Rattle.simulate.specs.Simulate.{unforced, stuck_at}
use Rattle.simulate.specs.Boolean.{Vector, Detects}
use Rattle.simulate.specs.Vectors.{NoX, Fills}
use Rattle.simulate.specs.Work.{good_of, faulty_of}
use Rattle.simulate.proofs.Keeps.{unforced_keeps}
use Rattle.simulate.proofs.Known.{values_known}
use Rattle.tables.specs.Entries.{pass, fail, unknown}
use Rattle.entry.specs.Entry.{entry_under, entry_at}
use Rattle.entry.proofs.Words.{expected_passes, entry_small, fail-some, pass_every}
use Rattle.entry.proofs.Decided.{decided}
use Rattle.entry.proofs.Fillings.{differ_truths, agree_truths}
use Rattle.rows.proofs.Entries.{made}
use Rattle.dictionary.specs.Promise.{Answered}
use Rattle.dictionary.proofs.Checked.{taken}
use Rattle.dictionary.proofs.Says.{made_so}
use Rattle.meaning.specs.Entries.{Exposes, Clears, Means}
use Rattle.std.specs.Prelude.{Ok}

module _ (fault : Fault) (small : fault.value ≤ 1) (c p : List ℕ) (n : ℕ) (well : WellFormed c (length p) n) where
  exposes_is : entry_at fault c p n ≡ fail → Exposes c fault n p
  unfolding entry_under
  exposes_is e =
      let w = fail-some expected_passes c (good_of c p n) (faulty_of fault c p n) n e in
      record {
        line = w.0;
        compared = record { inside = w.1.inside; output = eq-eqb _ _ w.1.output; known = w.1.holds.good_known };
        differ = λ x fills. differ_truths fault small c p n well.inputs_are x fills w.0 w.1.holds;
      }

  each : entry_at fault c p n ≡ fail → (x : Vector) → Fills p x → Detects c fault n x
  each e x fills =
      let s = exposes_is e in
      record { line = s.line; inside = s.compared.inside; output = s.compared.output; differ = s.differ x fills }

  clears_is : entry_at fault c p n ≡ pass → Clears c fault n p
  unfolding entry_under
  clears_is e x fills k h =
      let all = pass_every expected_passes c (good_of c p n) (faulty_of fault c p n) n e in
      agree_truths fault small c p n well.inputs_are x fills k (all k h.inside (eqb-true _ _ h.output) h.known)

  decided_is : NoX p → entry_at fault c p n ≡ unknown → ⊥
  unfolding entry_under
  decided_is = decided expected_passes fault c p n small well

  -- without X every output is compared
  none : NoX p → entry_at fault c p n ≡ pass → (x : Vector) → Fills p x → Detects c fault n x → ⊥
  none full e x fills d =
      let known = values_known unforced (unforced_keeps 2) c p n well full d.line in
      d.differ (clears_is e x fills d.line (record { inside = d.inside; output = d.output; known = known }))

  means : Means (entry_at fault c p n) c fault n p
  means = record {
    each_detects = each;
    exposes = exposes_is;
    clears = clears_is;
    decided = decided_is;
    undetected = λ full x fills. (λ e. none full e x fills, λ not. go not (decided_is full) (λ e. each e x fills));
  }
    where
      go : {A : Type 0} → (A → ⊥) → (entry_at fault c p n ≡ unknown → ⊥) → (entry_at fault c p n ≡ fail → A) → entry_at fault c p n ≡ pass
      go not known detects = let n1 : entry_at fault c p n ≡ fail → ⊥ = λ e. not (detects e) in omega (arith, entry_small (stuck_at fault) c p n)

-- of an accepted circuit, a fault in its layout, and any pattern of its inputs
pub entry_means : (c fs p : List ℕ) (j : ℕ)
    → refusal (circuit_rules c) ≡ Ok tt
    → FaultLayout c fs j
    → length p ≡ inputs_of c
    → Means (entry_at (fault_at fs j) c p (lines_of c)) c (fault_at fs j) (lines_of c) p
entry_means c fs p j fine layout long = means (fault_at fs j) layout.value c p (lines_of c) (rw long (good c fine).well)

-- of pattern i and fault j of accepted lists
pub listed_means : (c fs ps : List ℕ)
    → refusal (circuit_rules c) ≡ Ok tt
    → refusal (list_rules c (inputs_of c) fs ps) ≡ Ok tt
    → (i j : ℕ)
    → i < pattern_count (inputs_of c) ps
    → j < fault_count fs
    → Means (entry_at (fault_at fs j) c (pattern_at (inputs_of c) ps i) (lines_of c)) c (fault_at fs j) (lines_of c) (pattern_at (inputs_of c) ps i)
listed_means c fs ps fine listed i j a b =
    let lists = good_lists c (inputs_of c) fs ps listed in
    entry_means c fs (pattern_at (inputs_of c) ps i) j fine (lists.0.faults j b) (pattern_whole ps lists.1.records a)

-- of the table that an engine of the dictionary maker leaves: the byte of pattern i and fault j
pub dictionary_means : {places : ℕ} {left c fs ps t w t' w' : List ℕ}
    → Answered places left c fs ps t w (Ok tt) t' w'
    → (i j : ℕ)
    → i < pattern_count (inputs_of c) ps
    → j < fault_count fs
    → Means (get_or t' (i * fault_count fs + j) 0) c (fault_at fs j) (lines_of c) (pattern_at (inputs_of c) ps i)
dictionary_means {places} {c = c} {fs = fs} {ps = ps} {t = t} {w = w} d i j a b =
    let k = taken places c fs ps (length t) (length w) (sym d.answer) in
    rw ((made_so d).0, (made stuck_at c (lines_of c) (inputs_of c) fs ps).entry i j a b) (listed_means c fs ps k.circuit_fine k.lists_fine i j a b)

-- there is a filling: X may be read as 0
pub some_filling : (p : List ℕ) → Fills p (λ i. eqb (get_or p i 0) 1)
some_filling p i l = go (get_or p i 0)
  where
    go : (v : ℕ) → Refines v (one (eqb v 1))
    go zero h = refl
    go (suc zero) h = refl
    go (suc (suc v)) h = absurd (omega arith)

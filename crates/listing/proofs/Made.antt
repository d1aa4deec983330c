-- The program's own buffers are of their size, so dictionary maker and compactor refuse nothing but circuit, faults and patterns.
-- Assumes nothing.
use mathlib.Core.Path.{◌≡◌, refl, sym, ap, ◌∙◌}
use mathlib.Core.List.{List, ◌++◌}
use Prim.Native.Nat.{ℕ, ◌*◌, ◌≤◌}
use native.Mathlib.Omega.{arith}
use lib.ListN.{length}
use Rattle.answers.specs.Rules.{Ruling}
use Rattle.answers.specs.Rules.{Rule, refusal, unless, AllHold}
use Rattle.answers.specs.Lent.{lent_rules}
use Rattle.answers.proofs.Rules.{after_refused, after_fine, same_after, both_fine, fine}
use Rattle.answers.proofs.Lent.{lent_fine}
use Rattle.circuit.specs.Record.{lines_of, inputs_of}
use Rattle.circuit.specs.Promise.{circuit_rules}
use Rattle.lists.specs.Faults.{fault_count}
use Rattle.lists.specs.Patterns.{pattern_count}
use Rattle.lists.specs.Both.{list_rules}
use Rattle.lists.proofs.Both.{good_lists, lists_few}
use Rattle.simulate.specs.Simulate.{stuck_at}
use Rattle.rows.specs.Table.{table_of}
use Rattle.rows.proofs.Entries.{made}
use Rattle.dictionary.specs.Promise.{dictionary_rest_rules, dictionary_rules, Answered}
use Rattle.tables.specs.Entries.{entries_of}
use Rattle.needs.specs.Needs as needs
use Rattle.tables.specs.Table.{table_rules, Sized}
use Rattle.tables.specs.Marks.{marks_rules, kept_rules}
use Rattle.tables.proofs.Says.{kept_say}
use Rattle.compact.specs.Promise.{Compacts}
use Rattle.listing.specs.Promise.{program_rules, dictionary_of}
use Rattle.listing.specs.Owed.{PutTableReady, PutMadeReady, MakeReady, MakeDone}
use Rattle.listing.proofs.Small.{table_small}
use Rattle.std.specs.Prelude.{Ok, Err}

module _ (places : ℕ) (c fs ps t w : List ℕ) where
  -- where the lists are fine, so are the buffers
  rest_same : {n : ℕ} → MakeReady c n fs ps (length t)
      → length w ≡ places * n
      → refusal (dictionary_rest_rules (places * lines_of c) c (inputs_of c) fs ps (length t) (length w)) ≡ refusal (list_rules c (inputs_of c) fs ps)
  rest_same {n} s size = go (refusal (list_rules c (inputs_of c) fs ps)) refl
    where
      lists : List Rule
      lists = list_rules c (inputs_of c) fs ps

      buffers : List Rule
      buffers = lent_rules (fault_count fs * pattern_count (inputs_of c) ps) (length t) (places * lines_of c) (length w)

      go : (v : Ruling) → refusal lists ≡ v → refusal (lists ++ buffers) ≡ refusal lists
      go (Err why) e = after_refused lists buffers e ∙ sym e
      go (Ok u) e =
          let few = lists_few c (inputs_of c) fs ps e in
          after_fine lists buffers e
          ∙ lent_fine (fault_count fs * pattern_count (inputs_of c) ps) (length t) (places * lines_of c) (length w) (s.entries few.0 few.1) (size ∙ ap (λ (x : ℕ). places * x) s.lines_are)
          ∙ sym e

  same-refusal : {n : ℕ} → MakeReady c n fs ps (length t) → length w ≡ places * n → refusal (dictionary_rules places c fs ps (length t) (length w)) ≡ refusal (program_rules c fs ps)
  same-refusal s size = same_after (circuit_rules c) _ _ (rest_same s size)

-- whichever engine makes the table
pub tabled : {places n : ℕ} {left c fs ps t w : List ℕ} {r : Ruling} {t' w' : List ℕ}
    → MakeReady c n fs ps (length t)
    → length w ≡ places * n
    → Answered places left c fs ps t w r t' w'
    → MakeDone c fs ps t r t'
tabled {places} {c = c} {fs = fs} {ps = ps} {t = t} {w = w} s size d =
    let q = same-refusal places c fs ps t w s size in
    record {
      answer = d.answer ∙ q;
      table = d.table ∙ ap (λ (v : Ruling). unless v t (table_of c (lines_of c) (inputs_of c) fs ps)) q;
    }

-- where nothing is refused, the dictionary is a table for the compactor
pub fine_sized : (c fs ps : List ℕ) → refusal (program_rules c fs ps) ≡ Ok tt → Sized (fault_count fs) (pattern_count (inputs_of c) ps) (length (dictionary_of c fs ps))
fine_sized c fs ps e =
    let lists = good_lists c (inputs_of c) fs ps (both_fine (circuit_rules c) _ e).1 in
    let faults = lists.0.records in
    let patterns = lists.1.records in
    record {
      some_fault = faults.some;
      few_faults = faults.few;
      some_pattern = patterns.some;
      few_patterns = patterns.few;
      product = (made stuck_at c (lines_of c) (inputs_of c) fs ps).size;
    }

module _ {c fs ps t t' : List ℕ} {r : Ruling} (Made-so : MakeDone c fs ps t r t') (is-fine : r ≡ Ok tt) where
  rules_fine : refusal (program_rules c fs ps) ≡ Ok tt
  rules_fine = sym Made-so.answer ∙ is-fine

  pub table_is : t' ≡ dictionary_of c fs ps
  table_is = Made-so.table ∙ rw rules_fine

  pub full : {f p out : ℕ} → PutMadeReady c fs ps f p → 71680 ≤ out → PutTableReady t' out f p
  full {f} {p} {out} k room =
      let sized = fine_sized c fs ps rules_fine in
      rw (table_is, k.faults, k.patterns)
      (record { sized = sized; small = λ i l. table_small c (lines_of c) (inputs_of c) fs ps i; lines = omega (arith, sized.few_patterns) })

-- the compactor makes the marks of a full table
pub marks_are : {t m m' : List ℕ} {out f p : ℕ} {r : Ruling} → PutTableReady t out f p → length m ≡ p → Compacts f p t m r m' → m' ≡ needs.compacted (entries_of f t) f p
unfolding table_rules marks_rules AllHold
marks_are {t} {m} {m'} {out} {f} {p} k size so =
    so.marks ∙ rw (fine (kept_rules f p t m) (kept_say f p t m) (k.sized, (k.small, (size, tt))))

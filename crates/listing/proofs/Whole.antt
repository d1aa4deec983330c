-- The whole text: where it comes from, and that it is not too long.
-- Assumes nothing.
use mathlib.Core.Path.{◌≡◌, refl, sym, ap, ◌∙◌}
use mathlib.Core.List.{List, ◌++◌}
use Prim.Native.Nat.{ℕ, ◌*◌, ◌≤◌}
use native.Mathlib.Omega.{arith}
use lib.ListN.{length, take, drop, take-append-drop}
use lib.Seq.{length-take-le}
use Rattle.ground.specs.Put.{Put}
use Rattle.ground.proofs.Put.{put_long}
use Rattle.answers.specs.Rules.{Ruling}
use Rattle.answers.specs.Rules.{refusal, unless}
use Rattle.answers.proofs.Rules.{after_refused}
use Rattle.circuit.specs.Promise.{circuit_rules}
use Rattle.circuit.specs.Formed.{Known}
use Rattle.circuit.specs.Record.{inputs_of}
use Rattle.lists.specs.Faults.{fault_count}
use Rattle.lists.specs.Patterns.{pattern_count}
use Rattle.lists.specs.Both.{list_rules}
use Rattle.tables.specs.Entries.{entries_of}
use Rattle.needs.specs.Needs as goal
use Rattle.letters.specs.Text.{refused_text}
use Rattle.listing.specs.Promise.{program_rules, table_text, dictionary_of, output_of, Listed}
use Rattle.listing.specs.Owed.{PutMadeReady, EntriesDone, MakeReady, MakeDone, PutMadeDone}
use Rattle.letters.proofs.Pieces.{refused_short}
use Rattle.letters.proofs.Lines.{lines_short}
use Rattle.listing.proofs.Made.{table_is, fine_sized, full}
use Rattle.std.specs.Prelude.{Ok, Err}
use Rattle.answers.specs.declared.Reason.{Reason}
use Rattle.answers.specs.declared.Refusal.{Refusal}
use Rattle.answers.specs.Area.{number_of}

-- ---- from a table of its size

module _ {c fs ps t w w' : List ℕ} {r : ℕ} (room : 71680 ≤ length w) where
  pub refused_lists : {why : Refusal} {t' : List ℕ} → MakeDone c fs ps t (Err why) t' → Put w w' 0 (refused_text (number_of why.0) why.1) r → PutMadeDone c fs ps t w r t' w'
  unfolding output_of
  refused_lists {why} so p = record {
    written = rw (← so.answer) p;
    fits = omega (arith, p.next_is, refused_short (number_of why.0) why.1, put_long p);
    table = so.table;
  }

  pub fine_lists : {t' : List ℕ} {f p : ℕ} → MakeDone c fs ps t (Ok tt) t' → PutMadeReady c fs ps f p → Put w w' 0 (table_text f p t') r → PutMadeDone c fs ps t w r t' w'
  unfolding output_of
  fine_lists {t'} {f} {p} so k put =
      let sized = (full so refl {out = 71680} k (omega arith)).sized in
      record {
        written = rw (← so.answer, ← k.faults, ← k.patterns, ← table_is so refl) put;
        fits = omega (arith, put_long put, put.next_is, lines_short f t' (goal.compacted (entries_of f t') f p) p sized.few_faults, sized.few_patterns);
        table = so.table;
      }

  -- ---- the promise

  pub circuit_listed : {why : Refusal} → refusal (circuit_rules c) ≡ Err why → Put w w' 0 (refused_text (number_of why.0) why.1) r → Listed c fs ps t w r t w'
  unfolding output_of
  circuit_listed {why} e p =
      let q = after_refused (circuit_rules c) (list_rules c (inputs_of c) fs ps) e in
      record { written = rw q p; fits = omega (arith, p.next_is, refused_short (number_of why.0) why.1, put_long p); table = rw q }

-- so much of the table was lent as it has entries
pub listed : {c fs ps : List ℕ} (t : List ℕ) {t' w w' : List ℕ} {n m r size : ℕ}
    → Known c n m
    → EntriesDone (fault_count fs) (pattern_count m ps) size
    → PutMadeDone c fs ps (take size t) w r t' w'
    → Listed c fs ps t w r (t' ++ drop size t) w'
listed {c} {fs} {ps} t {t'} {size = size} k s l = record { written = l.written; fits = l.fits; table = go (refusal (program_rules c fs ps)) refl l.table }
  where
    go : (v : Ruling) → refusal (program_rules c fs ps) ≡ v
        → t' ≡ unless v (take size t) (dictionary_of c fs ps)
        → t' ++ drop size t ≡ unless v t (dictionary_of c fs ps ++ drop (length (dictionary_of c fs ps)) t)
    go (Err why) e q = ap (λ (u : List ℕ). u ++ drop size t) q ∙ take-append-drop size t
    go (Ok u) e q =
        let z = fine_sized c fs ps e in
        let product : pattern_count (inputs_of c) ps ≤ 256 → size ≡ fault_count fs * pattern_count (inputs_of c) ps = rw (← k.inputs) (s.product z.few_faults) in
        let same : size ≡ length (dictionary_of c fs ps) = product z.few_patterns ∙ sym z.product in
        rw (q, same)

-- two results that the promise allows are equal
pub one_result : {c fs ps t t' t'' w w' w'' : List ℕ} {r s : ℕ} → Listed c fs ps t w r t' w' → Listed c fs ps t w s t'' w'' → (r ≡ s) × (t' ≡ t'') × (w' ≡ w'')
one_result p q = (p.written.next_is ∙ sym q.written.next_is, p.table ∙ sym q.table, p.written.written ∙ sym q.written.written)

-- ---- the sizes

-- patterns are counted by the number of inputs
pub counted : {c fs ps : List ℕ} {n m : ℕ} → Known c n m → PutMadeReady c fs ps (fault_count fs) (pattern_count m ps)
counted {c} {fs} {ps} k = record { faults = refl; patterns = ap (λ (x : ℕ). pattern_count x ps) k.inputs }

-- so much of the table is lent as it has entries
pub lent_long : (t : List ℕ) {f p size : ℕ} → EntriesDone f p size → 65536 ≤ length t → length (take size t) ≡ size
lent_long t {f} {p} {size} s room = length-take-le size t (omega (arith, s.most))

pub sizes : {c fs ps : List ℕ} (t : List ℕ) {n m size : ℕ} → Known c n m → EntriesDone (fault_count fs) (pattern_count m ps) size → 65536 ≤ length t → MakeReady c n fs ps (length (take size t))
sizes {c} {fs} {ps} t k s room = record {
  lines_are = k.lines;
  most_lines = rw k.lines k.good.most_lines;
  entries = rw (lent_long t s room, ← k.inputs) s.product;
}

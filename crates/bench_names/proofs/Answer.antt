-- The promise of the names: reached from what the reader leaves, and met by one result only.
-- Assumes nothing.
use mathlib.Core.Path.{◌≡◌, sym, ap, ◌∙◌, subst}
use mathlib.Core.List.{List}
use Prim.Native.Nat.{ℕ}
use lib.ListN.{length, take, drop}
use lib.Seq.{take_at}
use Rattle.ground.specs.Put.{laid_on}
use Rattle.ground.proofs.Grow.{table-length}
use Rattle.answers.specs.Rules.{Ruling, refusal}
use Rattle.answers.specs.Answer.{answered}
use Rattle.answers.specs.Owed.{RulesDone}
use Rattle.answers.proofs.Answer.{numbers-told, ruling_of, was_ruled, first_refused, first_fine, memory_part}
use Rattle.circuit.specs.Record.{lines_of}
use Rattle.records.specs.Net.{net_size}
use Rattle.netlist.proofs.Fields.{net_lines}
use Rattle.nets.specs.Rules.{buffer_bytes}
use Rattle.texts.specs.Text.{net_in, place_on, places_in}
use Rattle.bench.specs.Promise.{bench_rules, records_in, read_numbers}
use Rattle.bench.specs.Owed.{PlacesDone}
use Rattle.bench_names.specs.Promise.{place_count_rules, place_rules, names_answer, TellsNames}
use Rattle.bench_names.specs.Owed.{HandOverDone}
use Rattle.std.specs.Prelude.{Ok, Err, Result}
use Rattle.answers.specs.declared.Refusal.{Refusal}

names_done : {t p p' : List ℕ} {r : Result ℕ Refusal} → RulesDone (place_rules t (length p)) (lines_of (records_in t)) p (laid_on p (places_in t)) r p' → TellsNames t p p' r
unfolding names_answer read_numbers
names_done {t} {p} d = record {
  answer = d.answer;
  numbers = ap read_numbers d.answer ∙ numbers-told _ (refusal (place_rules t (length p))) _;
  places = d.memory;
}

-- ---- what the reader leaves, with a buffer of its size

module _ (t : List ℕ) {f f' c c' : List ℕ} {v : Result ℕ Refusal} (size : length c ≡ buffer_bytes) (d : PlacesDone (bench_rules t (length c)) t f f' c c' v) where
  answer_is : v ≡ answered (refusal (bench_rules t buffer_bytes)) (lines_of (records_in t))
  answer_is = d.answer ∙ ap (λ (n : ℕ). answered (refusal (bench_rules t n)) (lines_of (records_in t))) size

  -- it refuses
  pub names_refused : {p : List ℕ} {why : Refusal} → v ≡ Err why → TellsNames t p p (Err why)
  names_refused e = names_done (first_refused (bench_rules t buffer_bytes) _ (was_ruled _ answer_is (ap ruling_of e)))

  -- it has found n places
  module _ {n : ℕ} (e : v ≡ Ok n) where
    fine : refusal (bench_rules t buffer_bytes) ≡ Ok tt
    fine = was_ruled _ answer_is (ap ruling_of e)

    count_is : n ≡ lines_of (records_in t)
    count_is = let a = answer_is ∙ ap (λ (w : Ruling). answered w (lines_of (records_in t))) fine in cc (a, e)

    places_long : length (places_in t) ≡ lines_of (records_in t)
    unfolding places_in
    places_long = table-length (place_on t) (net_size (net_in t)) ∙ sym (net_lines (net_in t))

    found-is : take n f' ≡ places_in t
    found-is =
        let ruling = ap (λ (m : ℕ). refusal (bench_rules t m)) size ∙ fine in
        let laid : f' ≡ laid_on f (places_in t) = rw ruling at (memory_part (λ (lent : List ℕ × List ℕ). lent.0) d) in
        ap (take n) laid ∙ take_at (places_in t) (drop (length (places_in t)) f) n (places_long ∙ sym count_is)

    pub names_found : {p p' : List ℕ} {r : Result ℕ Refusal} → HandOverDone (take n f') p p' r → TellsNames t p p' r
    names_found {p} {p'} {r} h =
        let over = subst (λ (l : List ℕ). HandOverDone l p p' r) found-is h in
        let counted = ap (λ (m : ℕ). answered (refusal (place_count_rules (length p))) m) places_long in
        names_done (first_fine (bench_rules t buffer_bytes) _ fine (record { answer = over.answer ∙ counted; memory = over.memory }))

-- two allowed results are equal
pub one_result : {t p p' p'' : List ℕ} {r s : Result ℕ Refusal} → TellsNames t p p' r → TellsNames t p p'' s → (r ≡ s) × (p' ≡ p'')
one_result p q = (cc, cc)

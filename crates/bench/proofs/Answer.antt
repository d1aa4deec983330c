-- The promise of the reader: reached from what its steps leave, and met by one result only.
-- Assumes nothing.
use mathlib.Core.Path.{◌≡◌, ap, ◌∙◌}
use mathlib.Core.List.{List}
use Prim.Native.Nat.{ℕ}
use lib.ListN.{length}
use Rattle.answers.specs.Rules.{refusal}
use Rattle.answers.proofs.Answer.{numbers-told, memory_part}
use Rattle.bench.specs.Promise.{bench_rules, read_of, read_numbers, Reads}
use Rattle.bench.specs.Owed.{PlacesDone}
use Rattle.std.specs.Prelude.{Result}
use Rattle.answers.specs.declared.Refusal.{Refusal}

-- the places are forgotten
pub reads : {t p p' c c' : List ℕ} {r : Result ℕ Refusal} → PlacesDone (bench_rules t (length c)) t p p' c c' r → Reads t c c' r
unfolding read_of read_numbers
reads {t} {c = c} d = record {
  answer = d.answer;
  numbers = ap read_numbers d.answer ∙ numbers-told _ (refusal (bench_rules t (length c))) _;
  circuit = memory_part (λ (lent : List ℕ × List ℕ). lent.1) d;
}

-- two allowed results are equal
pub one_result : {t c c' c'' : List ℕ} {r s : Result ℕ Refusal} → Reads t c c' r → Reads t c c'' s → (r ≡ s) × (c' ≡ c'')
one_result p q = (cc, cc)

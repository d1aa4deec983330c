-- The entry in the paper's words; the definition is proved to say the same.
-- Assumes nothing.
use Rattle.std.specs.Prelude.{◌≡◌, List, ℕ, ◌<◌, get_or}
use Rattle.circuit.specs.Record.{out_at}
use Rattle.tables.specs.Entries.{pass, fail, unknown}

-- both circuits have known values, and these differ
pub record Differ (a b : ℕ) : Type 0 where
  pub good_known : a < 2
  pub faulty_known : b < 2
  pub differ : a ≡ b → ⊥

-- both are known and equal
pub record Agree (a b : ℕ) : Type 0 where
  pub good_known : a < 2
  pub faulty_known : b < 2
  pub equal : a ≡ b

-- where the good value is known, the faulty value is known and equal
abbrev pub AsExpected : ℕ → ℕ → Type 0
AsExpected a b = a < 2 → Agree a b

-- line k is an output, at which this holds of the good and the faulty value
pub record AtOutput (P : ℕ → ℕ → Type 0) (c g f : List ℕ) (n k : ℕ) : Type 0 where
  pub inside : k < n
  pub output : out_at c k ≡ 1
  pub holds : P (get_or g k 0) (get_or f k 0)

abbrev pub SomeOutput : (ℕ → ℕ → Type 0) → List ℕ → List ℕ → List ℕ → ℕ → Type 0
SomeOutput P c g f n = (k : ℕ) × AtOutput P c g f n k

abbrev pub EveryOutput : (ℕ → ℕ → Type 0) → List ℕ → List ℕ → List ℕ → ℕ → Type 0
EveryOutput P c g f n = (k : ℕ) → k < n → out_at c k ≡ 1 → P (get_or g k 0) (get_or f k 0)

-- e is fail if F, pass if P, otherwise unknown
pub record Chosen (F P : Type 0) (e : ℕ) : Type 0 where
  pub is_fail : F → e ≡ fail
  pub is_pass : P → e ≡ pass
  pub is_unknown : (F → ⊥) → (P → ⊥) → e ≡ unknown

-- fail if at some output both circuits have known values and these differ; pass if at every output P holds; otherwise unknown
abbrev pub EntryBy : (ℕ → ℕ → Type 0) → List ℕ → List ℕ → List ℕ → ℕ → ℕ → Type 0
EntryBy P c g f n e = Chosen (SomeOutput Differ c g f n) (EveryOutput P c g f n) e

abbrev pub Entry : List ℕ → List ℕ → List ℕ → ℕ → ℕ → Type 0
Entry c g f n e = EntryBy AsExpected c g f n e

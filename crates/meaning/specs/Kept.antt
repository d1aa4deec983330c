-- What the marks of a dictionary's table are good for: of a circuit c, faults fs, patterns ps, and marks m.
-- Assumes nothing.
use Rattle.std.specs.Prelude.{◌≡◌, ◌⊎◌, true, List, ℕ, ◌<◌}
use Rattle.circuit.specs.Record.{lines_of, inputs_of}
use Rattle.lists.specs.Faults.{fault_count, fault_at}
use Rattle.lists.specs.Patterns.{pattern_count, pattern_at}
use Rattle.tables.specs.Entries.{Entries}
use Rattle.entry.specs.Entry.{entry_at}
use Rattle.needs.specs.Needs.{whole, kept}
use Rattle.needs.specs.Words.{Detected, Apart, Sound}
use Rattle.meaning.specs.Entries.{Exposes, Clears}

-- the entry of pattern i and fault j
abbrev pub entries_for : List ℕ → List ℕ → List ℕ → Entries
entries_for c fs ps i j = entry_at (fault_at fs j) c (pattern_at (inputs_of c) ps i) (lines_of c)

-- pattern i exposes fault j; it clears it
abbrev pub ExposesAt : List ℕ → List ℕ → List ℕ → ℕ → ℕ → Type 0
ExposesAt c fs ps i j = Exposes c (fault_at fs j) (lines_of c) (pattern_at (inputs_of c) ps i)

abbrev pub ClearsAt : List ℕ → List ℕ → List ℕ → ℕ → ℕ → Type 0
ClearsAt c fs ps i j = Clears c (fault_at fs j) (lines_of c) (pattern_at (inputs_of c) ps i)

-- of P patterns, some kept one does this
abbrev pub SomeKept : ℕ → List ℕ → (ℕ → Type 0) → Type 0
SomeKept P m Does = (i : ℕ) × (i < P) × (kept m i ≡ true) × Does i

pub record Serves (c fs ps m : List ℕ) : Type 0 where
  -- each fault that some pattern fails is failed by a kept one, each pair of such faults told apart stays told apart, and no kept pattern
  -- can be spared
  pub sound : Sound (entries_for c fs ps) (fault_count fs) (pattern_count (inputs_of c) ps) m
  -- over vectors: each such fault is exposed by a kept pattern
  pub exposed : (f : ℕ)
      → f < fault_count fs
      → Detected (entries_for c fs ps) (pattern_count (inputs_of c) ps) whole f
      → SomeKept (pattern_count (inputs_of c) ps) m (λ i. ExposesAt c fs ps i f)
  -- and of each such pair told apart a kept pattern exposes one and clears the other
  pub told : (f g : ℕ)
      → f < fault_count fs
      → g < fault_count fs
      → Detected (entries_for c fs ps) (pattern_count (inputs_of c) ps) whole f
      → Detected (entries_for c fs ps) (pattern_count (inputs_of c) ps) whole g
      → Apart (entries_for c fs ps) (pattern_count (inputs_of c) ps) whole f g
      → SomeKept (pattern_count (inputs_of c) ps) m (λ i. (ExposesAt c fs ps i f × ClearsAt c fs ps i g) ⊎ (ClearsAt c fs ps i f × ExposesAt c fs ps i g))

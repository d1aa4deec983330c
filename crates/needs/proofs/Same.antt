-- Needs speak of the entries of P patterns and F faults, and of nothing else: two tables that have these in common are served by the same marks.
-- Assumes nothing.
use mathlib.Core.Path.{◌≡◌, sym, ◌∙◌}
use mathlib.Core.List.{List}
use Prim.Native.Nat.{ℕ, ◌<◌}
use Rattle.tables.specs.Entries.{Entries}
use Rattle.needs.specs.Needs.{Patterns}
use Rattle.needs.specs.Words.{Detected, Apart, Meets, Sound}

abbrev pub SameEntries : Entries → Entries → ℕ → ℕ → Type 0
SameEntries E E' F P = (p f : ℕ) → p < P → f < F → E p f ≡ E' p f

module _ {E E' : Entries} {F P : ℕ} (same : SameEntries E E' F P) where
  back : SameEntries E' E F P
  back p f a b = sym (same p f a b)

  detected_same : (K : Patterns) (f : ℕ) → f < F → Detected E P K f → Detected E' P K f
  detected_same K f l d = (d.0, d.1, d.2, back d.0 f d.1 l ∙ d.3)

  apart-same : (K : Patterns) (f g : ℕ) → f < F → g < F → Apart E P K f g → Apart E' P K f g
  apart-same K f g l k a = (a.0, a.1, a.2, rw (same a.0 f a.1 l, same a.0 g a.1 k) at a.3)

meets-same : {E E' : Entries} {F P : ℕ} → SameEntries E E' F P → (K : Patterns) → Meets E F P K → Meets E' F P K
meets-same same K m = record {
  faults = λ f l d. detected_same same K f l (m.faults f l (detected_same (back same) _ f l d));
  pairs = λ f g l k d e a.
      apart-same same K f g l k
      (m.pairs f g l k (detected_same (back same) _ f l d) (detected_same (back same) _ g k e) (apart-same (back same) _ f g l k a));
}

pub sound_same : {E E' : Entries} {F P : ℕ} {m : List ℕ} → SameEntries E E' F P → Sound E F P m → Sound E' F P m
sound_same same s = record {
  enough = meets-same same _ s.enough;
  none_spare = λ p l k h. s.none_spare p l k (meets-same (back same) _ h);
}

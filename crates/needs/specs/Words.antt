-- The same in document 01's own words, as statements. The tests of `Needs` are proved to say this.
-- Assumes nothing.
use Rattle.std.specs.Prelude.{◌≡◌, ◌⊎◌, true, ◌&&◌, ◌||◌, List, ℕ, ◌<◌, ltb, length, get_or, set}
use Rattle.tables.specs.Entries.{pass, fail, Entries}
use Rattle.needs.specs.Needs.{Patterns, whole, kept}

-- one entry is fail and the other is pass
abbrev pub TellsApart : ℕ → ℕ → Type 0
TellsApart a b = ((a ≡ fail) × (b ≡ pass)) ⊎ ((a ≡ pass) × (b ≡ fail))

-- a fault is detected by a set of patterns if some entry there is fail
abbrev pub Detected : Entries → ℕ → Patterns → ℕ → Type 0
Detected E P K f = (p : ℕ) × (p < P) × (K p ≡ true) × (E p f ≡ fail)

abbrev pub Apart : Entries → ℕ → Patterns → ℕ → ℕ → Type 0
Apart E P K f g = (p : ℕ) × (p < P) × (K p ≡ true) × TellsApart (E p f) (E p g)

-- each detected fault stays detected; each pair of detected faults told apart stays told apart
pub record Meets (E : Entries) (F P : ℕ) (K : Patterns) : Type 0 where
  pub faults : (f : ℕ) → f < F → Detected E P whole f → Detected E P K f
  pub pairs : (f g : ℕ) → f < F → g < F → Detected E P whole f → Detected E P whole g → Apart E P whole f g → Apart E P K f g

-- those still in the set at p's turn, without p: all before it, and the kept ones after it
abbrev pub others : List ℕ → ℕ → Patterns
others m p q = ltb q p || (ltb p q && kept m q)

-- the marks of patterns taken from the last to the first, each dropped exactly if those still in the set without it meet every need
pub record LastToFirst (E : Entries) (F P : ℕ) (m : List ℕ) : Type 0 where
  pub size : length m ≡ P
  pub dropped : (p : ℕ) → p < P → Meets E F P (others m p) → get_or m p 0 ≡ 0
  pub stays : (p : ℕ) → p < P → (Meets E F P (others m p) → ⊥) → get_or m p 0 ≡ 1

-- what the marks are good for: every need is met, and no kept pattern can be spared
pub record Sound (E : Entries) (F P : ℕ) (m : List ℕ) : Type 0 where
  pub enough : Meets E F P (kept m)
  pub none_spare : (p : ℕ) → p < P → kept m p ≡ true → Meets E F P (kept (set m p 0)) → ⊥

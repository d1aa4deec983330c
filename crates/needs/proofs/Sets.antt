-- Larger sets meet what smaller ones meet, all patterns together meet every need, and with no detected fault every set does.
-- Assumes nothing.
use mathlib.Core.Path.{◌≡◌, refl, sym, ap, ◌∙◌}
use mathlib.Core.Bool.{true, not, not-not}
use Prim.Native.Nat.{ℕ, ◌<◌}
use Rattle.ground.proofs.Tests.{same_test}
use Rattle.tables.specs.Entries.{Entries}
use Rattle.needs.specs.Needs.{Patterns, whole, detects, apart, lacks, meets}
use Rattle.needs.specs.Words.{Detected, Apart, Meets}
use Rattle.needs.proofs.Words.{detects-is, is-detects, apart-is, is-apart, meets-is, is-meets}

abbrev pub WithinSet : ℕ → Patterns → Patterns → Type 0
WithinSet P K L = (p : ℕ) → p < P → K p ≡ true → L p ≡ true

module _ (E : Entries) (F P : ℕ) where
  pub detected_within : {K L : Patterns} → WithinSet P K L → {f : ℕ} → Detected E P K f → Detected E P L f
  detected_within in-it w = (w.0, w.1, in-it w.0 w.1 w.2, w.3)

  pub apart-within : {K L : Patterns} → WithinSet P K L → {f g : ℕ} → Apart E P K f g → Apart E P L f g
  apart-within in-it w = (w.0, w.1, in-it w.0 w.1 w.2, w.3)

  pub meets-within : {K L : Patterns} → WithinSet P K L → Meets E F P K → Meets E F P L
  meets-within in-it h = record {
    faults = λ f l d. detected_within in-it (h.faults f l d);
    pairs = λ f g l k d b w. apart-within in-it (h.pairs f g l k d b w);
  }

  -- sets that agree lack the same
  pub lacks-same : (K L : Patterns) → ((p : ℕ) → p < P → K p ≡ L p) → lacks E F P K ≡ lacks E F P L
  lacks-same K L same =
      let e : meets E F P K ≡ meets E F P L =
      same_test (meets E F P K) (meets E F P L)
      (λ e. is-meets E F P L (meets-within (λ p l k. sym (same p l) ∙ k) (meets-is E F P K e)))
      (λ e. is-meets E F P K (meets-within (λ p l k. same p l ∙ k) (meets-is E F P L e))) in
      sym (not-not (lacks E F P K)) ∙ ap not e ∙ not-not (lacks E F P L)

  pub whole_meets : Meets E F P whole
  whole_meets = record { faults = λ f l d. d; pairs = λ f g l k d b w. w }

  pub nothing_detected : ((f : ℕ) → f < F → Detected E P whole f → ⊥) → (K : Patterns) → Meets E F P K
  nothing_detected none K = record { faults = λ f l d. absurd (none f l d); pairs = λ f g l k d b w. absurd (none f l d) }

-- ---- a set that meets every need detects and tells apart what all patterns do

module _ (E : Entries) (F P : ℕ) (K : Patterns) (enough : Meets E F P K) where
  pub same_detected : (f : ℕ) → f < F → detects E P whole f ≡ detects E P K f
  same_detected f l =
      same_test (detects E P whole f) (detects E P K f)
      (λ e. is-detects E P K f (enough.faults f l (detects-is E P whole f e)))
      (λ e. is-detects E P whole f (detected_within E F P (λ p _ _. refl) (detects-is E P K f e)))

  pub same-apart : (f g : ℕ) → f < F → g < F → detects E P whole f ≡ true → detects E P whole g ≡ true → apart E P whole f g ≡ apart E P K f g
  same-apart f g l k d b =
      same_test (apart E P whole f g) (apart E P K f g)
      (λ e. is-apart E P K f g (enough.pairs f g l k (detects-is E P whole f d) (detects-is E P whole g b) (apart-is E P whole f g e)))
      (λ e. is-apart E P whole f g (apart-within E F P (λ p _ _. refl) (apart-is E P K f g e)))

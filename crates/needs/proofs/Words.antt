-- The tests on tables and sets of patterns say what the words say.
-- Assumes nothing.
use mathlib.Core.Path.{◌≡◌, ap}
use mathlib.Core.Bool.{Bool, true, false, not, ◌&&◌}
use Prim.Native.Nat.{ℕ, ◌<◌}
use native.Mathlib.Decide.{dec_lt}
use native.Mathlib.Omega.{arith}
use borrow.Author.Tests.{eq-eqb, eqb-true, not-true, not-false}
use Rattle.ground.specs.Below.{any_below}
use Rattle.ground.proofs.Tests.{both, and_both, neither, never_both, other_fails}
use Rattle.ground.proofs.Below.{any_some, some_any, none_any, not_any}
use Rattle.tables.specs.Entries.{Entries}
use Rattle.needs.specs.Needs.{Patterns, whole, fails, tells, detects, apart, lost, lost_pair, lacks, meets}
use Rattle.needs.specs.Words.{Detected, Apart, Meets}
use Rattle.needs.proofs.Entries.{tells_is, is-tells, tells_swap, tells-differ}

-- ---- some pattern of a set

module _ (P : ℕ) (K : Patterns) (h : ℕ → Bool) where
  some_in : any_below P (λ p. K p && h p) ≡ true → (p : ℕ) × (p < P) × (K p ≡ true) × (h p ≡ true)
  some_in e =
      let w = some_any P (λ p. K p && h p) e in
      let b = both (K w.0) (h w.0) w.2 in
      (w.0, w.1, b.0, b.1)

  in_some : (p : ℕ) → p < P → K p ≡ true → h p ≡ true → any_below P (λ p. K p && h p) ≡ true
  in_some p l k e = any_some P (λ p. K p && h p) p l (and_both k e)

module _ (E : Entries) (P : ℕ) (K : Patterns) where
  pub detects-is : (f : ℕ) → detects E P K f ≡ true → Detected E P K f
  detects-is f e = let w = some_in P K (λ p. fails (E p f)) e in (w.0, w.1, w.2, eqb-true (E w.0 f) 1 w.3)

  pub is-detects : (f : ℕ) → Detected E P K f → detects E P K f ≡ true
  is-detects f w = in_some P K (λ p. fails (E p f)) w.0 w.1 w.2 (eq-eqb (E w.0 f) 1 w.3)

  pub apart-is : (f g : ℕ) → apart E P K f g ≡ true → Apart E P K f g
  apart-is f g e =
      let w = some_in P K (λ p. tells (E p f) (E p g)) e in
      (w.0, w.1, w.2, tells_is (E w.0 f) (E w.0 g) w.3)

  pub is-apart : (f g : ℕ) → Apart E P K f g → apart E P K f g ≡ true
  is-apart f g w = in_some P K (λ p. tells (E p f) (E p g)) w.0 w.1 w.2 (is-tells (E w.0 f) (E w.0 g) w.3)

  apart_swap : (f g : ℕ) → Apart E P K f g → Apart E P K g f
  apart_swap f g w = (w.0, w.1, w.2, tells_swap w.3)

-- ---- the needs

module _ (E : Entries) (F P : ℕ) (K : Patterns) where
  pub meets-is : meets E F P K ≡ true → Meets E F P K
  unfolding lost lost_pair lacks
  meets-is e = record {
    faults = λ f l d. detects-is E P K f (not-false _ (other_fails _ _ (not_any F (lost E P K) none.0 f l) (is-detects E P whole f d)));
    pairs = λ f g l k d b w. go f g l k d b w (dec_lt f g) (dec_lt g f);
  }
    where
      none : (any_below F (lost E P K) ≡ false) × (any_below F (λ g. any_below g (λ f. lost_pair E P K f g)) ≡ false)
      none = neither _ _ (not-true _ e)

      ordered : (f g : ℕ) → f < g → g < F → Detected E P whole f → Detected E P whole g → Apart E P whole f g → Apart E P K f g
      ordered f g l k d b w =
          let kept_pair : lost_pair E P K f g ≡ false = not_any g (λ f. lost_pair E P K f g) (not_any F (λ g. any_below g (λ f. lost_pair E P K f g)) none.1 g k) f l in
          apart-is E P K f g
          (not-false _ (other_fails _ _ (other_fails _ _ (other_fails _ _ kept_pair (is-detects E P whole f d)) (is-detects E P whole g b)) (is-apart E P whole f g w)))

      go : (f g : ℕ) → f < F → g < F → Detected E P whole f → Detected E P whole g → Apart E P whole f g → Dec (f < g) → Dec (g < f) → Apart E P K f g
      go f g l k d b w (yes h) y = ordered f g h k d b w
      go f g l k d b w (no n) (yes h) = apart_swap E P K g f (ordered g f h l b d (apart_swap E P whole f g w))
      go f g l k d b w (no n) (no m) =
          let q : f ≡ g = omega arith in
          absurd (tells-differ (E w.0 g) (rw q at w.3))

  pub is-meets : Meets E F P K → meets E F P K ≡ true
  unfolding lost lost_pair lacks
  is-meets h =
      rw (
        none_any F (lost E P K) (λ f l. never_both _ _ (λ d. ap not (is-detects E P K f (h.faults f l (detects-is E P whole f d))))),
        none_any F (λ g. any_below g (λ f. lost_pair E P K f g)) (λ g k. none_any g (λ f. lost_pair E P K f g) (λ f l.
            never_both _ _ (λ d. never_both _ _ (λ b. never_both _ _ (λ w.
            ap not (is-apart E P K f g (h.pairs f g (omega arith) k (detects-is E P whole f d) (detects-is E P whole g b) (apart-is E P whole f g w)))))))),
      )

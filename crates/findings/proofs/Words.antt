-- Each of the four tests says what its words say; and every need is met exactly if no fault and no pair is lost.
-- Assumes nothing.
use mathlib.Core.Path.{◌≡◌}
use mathlib.Core.Logic.{◌↔◌}
use mathlib.Core.Bool.{false}
use mathlib.Core.List.{List}
use Prim.Native.Nat.{ℕ, ◌<◌}
use native.Mathlib.Omega.{arith}
use lib.ListN.{get_or, set}
use borrow.Author.Tests.{ltb-true, lt-ltb, not-true}
use Rattle.ground.specs.Below.{any_below}
use Rattle.ground.proofs.Tests.{other_fails}
use Rattle.ground.proofs.Below.{none_any}
use Rattle.answers.specs.Rules.{Same}
use Rattle.answers.proofs.Same.{lt_same, and_same, some_same, never_same}
use Rattle.tables.specs.Entries.{Entries}
use Rattle.needs.specs.Needs.{Patterns, whole, detects, apart, lost, lost_pair, lacks, meets, kept}
use Rattle.needs.specs.Words.{Detected, Apart, Meets}
use Rattle.needs.proofs.Words.{detects-is, is-detects, apart-is, is-apart, meets-is, is-meets}
use Rattle.findings.specs.Findings.{bad_mark, pair_lost, spare}
use Rattle.findings.specs.Words.{BadAt, LostAt, LostPairAt, SpareAt, Nowhere}

pub bad_same : (m : List ℕ) (k : ℕ) → Same (bad_mark m k) (BadAt m k)
bad_same m k = record {
  holds = λ e. let l = ltb-true 1 (get_or m k 0) e in (λ z. omega arith, λ z. omega arith);
  tests = λ w. let a = w.0 in let b = w.1 in lt-ltb 1 (get_or m k 0) (omega arith);
}

module _ (E : Entries) (P : ℕ) where
  -- ---- the tests of the needs

  detects-same : (K : Patterns) (f : ℕ) → Same (detects E P K f) (Detected E P K f)
  detects-same K f = record { holds = detects-is E P K f; tests = is-detects E P K f }

  apart-same : (K : Patterns) (f g : ℕ) → Same (apart E P K f g) (Apart E P K f g)
  apart-same K f g = record { holds = apart-is E P K f g; tests = is-apart E P K f g }

  meets-same : (F : ℕ) (K : Patterns) → Same (meets E F P K) (Meets E F P K)
  meets-same F K = record { holds = meets-is E F P K; tests = is-meets E F P K }

  -- ---- what is lost

  pub lost-same : (m : List ℕ) (f : ℕ) → Same (lost E P (kept m) f) (LostAt E P m f)
  unfolding lost
  lost-same m f = and_same (detects-same whole f) (never_same _ (detects-same (kept m) f))

  pub pair_same : (m : List ℕ) (f g : ℕ) → Same (pair_lost E P m f g) (LostPairAt E P m f g)
  unfolding pair_lost lost_pair
  pair_same m f g = record {
    holds = λ e. let w = five.holds e in record { order = w.0; first_detected = w.1.0; second_detected = w.1.1.0; told = w.1.1.1.0; lost = w.1.1.1.1 };
    tests = λ w. five.tests (w.order, (w.first_detected, (w.second_detected, (w.told, w.lost))));
  }
    where
      five : Same (pair_lost E P m f g) ((f < g) × (Detected E P whole f × (Detected E P whole g × (Apart E P whole f g × (Apart E P (kept m) f g → ⊥)))))
      five =
          and_same (lt_same f g)
          (and_same (detects-same whole f) (and_same (detects-same whole g) (and_same (apart-same whole f g) (never_same _ (apart-same (kept m) f g)))))

module _ (E : Entries) (F P : ℕ) (m : List ℕ) where
  -- ---- what can be spared

  pub spare-same : (p : ℕ) → Same (spare E F P m p) (SpareAt E F P m p)
  unfolding spare
  spare-same p = and_same (record { holds = λ e. e; tests = λ e. e }) (meets-same E P F (kept (set m p 0)))

  -- ---- every need is met where nothing is lost

  -- f is the lower fault of a lost pair
  abbrev pub PairedAt : ℕ → Type 0
  PairedAt f = (g : ℕ) × (g < F) × LostPairAt E P m f g

  pub paired_same : (f : ℕ) → Same (any_below F (pair_lost E P m f)) (PairedAt f)
  paired_same f = some_same F (pair_same E P m f)

  not-lost : Nowhere F (LostAt E P m) → (f : ℕ) → f < F → lost E P (kept m) f ≡ false
  not-lost none f l = not-true _ ((never_same _ (lost-same E P m f)).tests (none f l))

  not-paired : Nowhere F PairedAt → (g : ℕ) → g < F → (f : ℕ) → f < g → lost_pair E P (kept m) f g ≡ false
  unfolding pair_lost
  not-paired none g k f l =
      other_fails _ _ (not-true _ ((never_same _ (pair_same E P m f g)).tests (λ w. none f (omega arith) (g, k, w)))) (lt-ltb f g l)

  pub met : Meets E F P (kept m) ↔ (Nowhere F (LostAt E P m) × Nowhere F PairedAt)
  unfolding lacks
  met = (
    λ h. (λ f l w. w.1 (h.faults f l w.0), λ f l w. let q = w.2 in q.lost (h.pairs f w.0 l w.1 q.first_detected q.second_detected q.told)),
    λ none. meets-is E F P (kept m) (rw (
      none_any F (lost E P (kept m)) (not-lost none.0),
      none_any F (λ g. any_below g (λ f. lost_pair E P (kept m) f g)) (λ g k. none_any g (λ f. lost_pair E P (kept m) f g) (not-paired none.1 g k)),
    )),
  )

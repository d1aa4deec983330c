-- Each finding in plain words, as a statement. `finding_of` is proved to be the one that this says.
-- Assumes nothing.
use Rattle.std.specs.Prelude.{◌≡◌, ◌⊎◌, true, List, ℕ, ◌≤◌, ◌<◌, get_or, set}
use Rattle.tables.specs.Entries.{Entries}
use Rattle.needs.specs.Needs.{whole, kept}
use Rattle.needs.specs.Words.{Detected, Apart, Meets}
use Rattle.findings.specs.declared.Finding.{Finding}
use Rattle.findings.specs.declared.Finding.TheVariants.{Sound, BadMark, LostFault, LostPair, SparePattern}

-- the mark at k is other than 0 or 1
abbrev pub BadAt : List ℕ → ℕ → Type 0
BadAt m k = (get_or m k 0 ≡ 0 → ⊥) × (get_or m k 0 ≡ 1 → ⊥)

-- a fault that some pattern of the table detects and no kept one
abbrev pub LostAt : Entries → ℕ → List ℕ → ℕ → Type 0
LostAt E P m f = Detected E P whole f × (Detected E P (kept m) f → ⊥)

-- two detected faults, the lower first, that some pattern of the table tells apart and no kept one
pub record LostPairAt (E : Entries) (P : ℕ) (m : List ℕ) (f g : ℕ) : Type 0 where
  pub order : f < g
  pub first_detected : Detected E P whole f
  pub second_detected : Detected E P whole g
  pub told : Apart E P whole f g
  pub lost : Apart E P (kept m) f g → ⊥

-- a kept pattern without which the others still meet every need
abbrev pub SpareAt : Entries → ℕ → ℕ → List ℕ → ℕ → Type 0
SpareAt E F P m p = (kept m p ≡ true) × Meets E F P (kept (set m p 0))

-- at none of n places, and at k of them and at none lower
abbrev pub Nowhere : ℕ → (ℕ → Type 0) → Type 0
Nowhere n Q = (k : ℕ) → k < n → Q k → ⊥

pub record LowestAt (n : ℕ) (Q : ℕ → Type 0) (k : ℕ) : Type 0 where
  pub inside : k < n
  pub holds : Q k
  pub lower : Nowhere k Q

-- a pair of F faults, and none that has a lower first fault, or the same one and a lower second
pub record LowestPairAt (F : ℕ) (Q : ℕ → ℕ → Type 0) (f g : ℕ) : Type 0 where
  pub inside : g < F
  pub holds : Q f g
  pub lower : (h k : ℕ) → k < F → Q h k → (f < h) ⊎ ((f ≡ h) × (g ≤ k))

-- the finding holds, and none of those before it
unfoldable pub Finds : Entries → ℕ → ℕ → List ℕ → Finding → Type 0
Finds E F P m (BadMark k) = LowestAt P (BadAt m) k
Finds E F P m (LostFault f) = Nowhere P (BadAt m) × LowestAt F (LostAt E P m) f
Finds E F P m (LostPair f g) = Nowhere P (BadAt m) × Nowhere F (LostAt E P m) × LowestPairAt F (LostPairAt E P m) f g
Finds E F P m (SparePattern p) = Nowhere P (BadAt m) × Meets E F P (kept m) × LowestAt P (SpareAt E F P m) p
Finds E F P m Sound = Nowhere P (BadAt m) × Meets E F P (kept m) × Nowhere P (SpareAt E F P m)

-- for what sound marks are: each of P marks is 0 or 1
abbrev pub ZeroOrOne : ℕ → List ℕ → Type 0
ZeroOrOne P m = (k : ℕ) → k < P → (get_or m k 0 ≡ 0) ⊎ (get_or m k 0 ≡ 1)

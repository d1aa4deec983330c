-- The words of one line, as the code finds them: whatever forces values at a line's sites forces them in every lane.
-- Assumes nothing.
use mathlib.Core.Path.{◌≡◌, refl, subst}
use mathlib.Core.List.{List}
use Prim.Native.Nat.{ℕ, ◌^◌, ◌≤◌, ◌<◌}
use native.Mathlib.Omega.{arith}
use lib.ListN.{length, get_or}
use Rattle.circuit.specs.Record.{kind_at, pin_at}
use Rattle.lanes.specs.declared.Lanes.{Lanes}
use Rattle.lanes.specs.Lanes.{laid, InLane, GateLanes}
use Rattle.lanes.specs.Owed.{Lanewise}
use Rattle.lanes.proofs.Values.{laid_carries, carries_laid}
use Rattle.lists.specs.declared.Fault.{Fault}
use Rattle.simulate.specs.Simulate.{Forcing, stuck_at}
use Rattle.simulate.proofs.Below.{stuck_site, stuck_off}
use Rattle.simulate.specs.Owed.{line_in}
use Rattle.simulate.proofs.Line.{input_in, gate_in, source_inside}
use Rattle.lane_lines.specs.Owed.{lanes_at, PairInside, Carries, LinesReady, LineDone}

-- words of 64 bits
pub record LanesFit (a : Lanes) : Type 0 where
  pub ones_fit : a.ones < 2 ^ 64
  pub zeros_fit : a.zeros < 2 ^ 64

-- where nothing is forced
pub as_read : {a b : Lanes} → a ≡ b → Lanewise (λ v. v) b a
as_read e i v l h = rw e h

-- at a fault's site every lane shows the stuck value; elsewhere nothing is forced
pub seen-stuck : (fault : Fault) {s : ℕ} {a r : Lanes} → s ≡ fault.site → r ≡ laid (λ i. fault.value) → Lanewise (stuck_at fault fault.line s) a r
seen-stuck fault {s} at e i v l _ = rw (e, stuck_site fault s v at) (laid_carries (λ _. fault.value) i l)

pub seen_off : (fault : Fault) {s : ℕ} {a : Lanes} → (s ≡ fault.site → ⊥) → Lanewise (stuck_at fault fault.line s) a a
seen_off fault {s} off i v l h = rw (stuck_off fault fault.line s v (λ _. off)) h

-- the words of a source are there
pub source_pair : {c : List ℕ} {n k : ℕ} (w : List ℕ) {j : ℕ} → LinesReady c n (length w) → k < n → (kind_at c k ≡ 0 → ⊥) → (s : ℕ) → 1 ≤ s → s ≤ 3 → j ≡ pin_at c k s → PairInside w j
source_pair w r l ne s a b e = record { inside = omega (arith, e, source_inside r.ordered l ne s a b, r.two) }

-- what is read of a line
read : {vs : ℕ → List ℕ} {n : ℕ} {w : List ℕ} (j : ℕ) → j < n → Carries vs n w → (i : ℕ) → i < 64 → InLane (lanes_at w j) i (get_or (vs i) j 0)
read {vs} j l held i m = rw (held.lines j l) (laid_carries (λ i. get_or (vs i) j 0) i m)

-- words that carry these values in every lane
all_lanes : {r : Lanes} (v : ℕ → ℕ) → LanesFit r → ((i : ℕ) → i < 64 → InLane r i (v i)) → r ≡ laid v
all_lanes {r} v fits = carries_laid v r fits.ones_fit fits.zeros_fit

module _ (f : Forcing) {c : List ℕ} {n : ℕ} {w : List ℕ} {k : ℕ} {r : Lanes} (ready : LinesReady c n (length w)) (inside : k < n) (fits : LanesFit r) where
  -- an input
  pub input-done : kind_at c k ≡ 0 → Lanewise (f k 0) (lanes_at w k) r → LineDone f c n w k r
  input-done e seen vs held = all_lanes (λ i. line_in f c (vs i) k) fits (λ i m. subst (InLane r i) (input_in f c (vs i) k e) (seen i _ m (read k inside held i m)))

  -- a gate whose pins see x, y and z
  pub gate-done : {x y z g : Lanes}
      → (kind_at c k ≡ 0 → ⊥)
      → Lanewise (f k 1) (lanes_at w (pin_at c k 1)) x
      → Lanewise (f k 2) (lanes_at w (pin_at c k 2)) y
      → Lanewise (f k 3) (lanes_at w (pin_at c k 3)) z
      → GateLanes (kind_at c k) x y z g
      → Lanewise (f k 0) g r
      → LineDone f c n w k r
  gate-done ne first second third gate seen vs held =
      all_lanes (λ i. line_in f c (vs i) k) fits
      (λ i m. subst (InLane r i) (gate_in f c (vs i) k ne refl refl refl refl)
      (seen i _ m (gate i _ _ _ m (at 1 (omega arith) (omega arith) first i m) (at 2 (omega arith) (omega arith) second i m) (at 3 (omega arith) (omega arith) third i m))))
    where
      -- what pin s sees
      at : (s : ℕ) {a : Lanes} → 1 ≤ s → s ≤ 3 → Lanewise (f k s) (lanes_at w (pin_at c k s)) a → (i : ℕ) → i < 64 → InLane a i (f k s (get_or (vs i) (pin_at c k s) 0))
      at s l h pin i m = pin i _ m (read (pin_at c k s) (source_inside ready.ordered inside ne s l h) held i m)

-- From a node to its sides and back: what a walk through each asks, and what all three leave.
-- Assumes nothing.
use mathlib.Core.Path.{◌≡◌, refl, subst}
use mathlib.Core.List.{List}
use Prim.Native.Nat.{ℕ, ◌+◌, ◌≤◌, ◌<◌}
use native.Mathlib.Numerals.{add-one}
use native.Mathlib.Omega.{arith}
use lib.ListN.{length, set, length-set}
use Rattle.nodes.specs.Node.{Node, FirstX}
use Rattle.nodes.proofs.Node.{one_fewer, set_is, restored}
use Rattle.standings.proofs.Levels.{met_nodes}
use Rattle.meetings.specs.Owed.{Held}
use Rattle.rounds.specs.Owed.{WalkReady, RoundDone}
use Rattle.walks.specs.Owed.{WalkDone}
use Rattle.meetings.proofs.Coming.{SameSize, ready_still}

-- ---- what a walk through a side asks

pub side-ready : {c fs : List ℕ} {n : ℕ} {s : Node} {level b : ℕ} {h h' : Held} {x y at : ℕ} (v : ℕ)
    → v < 2
    → FirstX s at
    → SameSize h h'
    → y ≡ x
    → WalkReady c fs n s level b (length h.0) (length h.1) (length h.2) x
    → WalkReady c fs n (set s at v) (level + 1) b (length h'.0) (length h'.1) (length h'.2) y
side-ready {s = s} {at = at} v two first sizes room r = record {
  list = rw (length-set s at v) (ready_still sizes room r.list);
  node = rw (length-set s at v) (set_is at v (omega arith) r.node);
  levels = omega (arith, r.levels);
  most = omega (arith, r.most, one_fewer {v = v} (λ e. absurd (omega arith)) first);
}

-- the same of an equal node
pub ready_of : {c fs : List ℕ} {n : ℕ} {s s2 : Node} {level b m k x y : ℕ} → s ≡ s2 → WalkReady c fs n s level b m k x y → WalkReady c fs n s2 level b m k x y
ready_of e p = rw (← e) p

pub walk_of : {c fs bs : List ℕ} {n : ℕ} {s s2 : Node} {level : ℕ} {h h' : Held} {s' : Node} → s ≡ s2 → WalkDone c fs bs n s level h s' h' → WalkDone c fs bs n s2 level h s' h'
walk_of {c} {fs} {bs} {n} {level = level} {h = h} {h' = h'} {s' = s'} e p = subst (λ (u : Node). WalkDone c fs bs n u level h s' h') e p

-- ---- what the node and both sides leave

module _ {c fs bs : List ℕ} {n : ℕ} {s : Node} {level : ℕ} where
  pub walk_sides : {h h1 h2 h3 : Held} {at : ℕ} {s1 s2 : Node}
      → 3 ≤ level
      → FirstX s at
      → RoundDone c fs bs n s level h at h1
      → SameSize h h1
      → WalkDone c fs bs n (set s at 0) (level + 1) h1 s1 h2
      → SameSize h1 h2
      → WalkDone c fs bs n (set s at 1) (level + 1) h2 s2 h3
      → WalkDone c fs bs n s level h (set s2 at 2) h3
  walk_sides {at = at} levels first here sizes side0 sizes0 side1 = record {
    node = restored 1 first side1.node;
    met = λ j b.
        met_nodes levels first ((here.met first.inside j b).node_met refl)
        (rw (length-set s at 0, add-one level) at (side0.met j (omega (arith, sizes.reaches))))
        (rw (length-set s at 1, add-one level) at (side1.met j (omega (arith, sizes.reaches, sizes0.reaches))));
  }

-- All faults at one node, one after the other: what a loop over them has done.
-- Assumes nothing.
use mathlib.Core.Path.{◌≡◌, refl, ◌∙◌}
use mathlib.Core.Bool.{Bool, false}
use mathlib.Core.List.{List}
use Prim.Native.Nat.{ℕ, ◌+◌, ◌≤◌, ◌<◌}
use native.Mathlib.Decide.{ℕ_discrete}
use native.Mathlib.Omega.{arith}
use lib.ListN.{length, take}
use Rattle.simulate.specs.Work.{good_of}
use Rattle.nodes.specs.Node.{Node}
use Rattle.meetings.specs.Owed.{ListReady, Held, SameAt, MetAt, MeetAllReady, MeetAtDone}

-- as long as they were
pub record SameSize (h h' : Held) : Type 0 where
  pub reaches : length h'.0 ≡ length h.0
  pub counts : length h'.1 ≡ length h.1
  pub tests : length h'.2 ≡ length h.2

-- the first i faults have come to the node, the others stand as before, and so do the good values
pub record SoFar (alone : Bool) (c fs bs : List ℕ) (n : ℕ) (s : Node) (level : ℕ) (h₀ h : Held) (w₀ w : List ℕ) (i : ℕ) : Type 0 where
  pub sizes : SameSize h₀ h
  pub room : length w ≡ length w₀
  pub good : alone ≡ false → take n w ≡ good_of c s n
  pub done : (j : ℕ) → j < i → j < length h₀.0 → MetAt alone c fs bs n s level h₀ h j
  pub rest : (j : ℕ) → i ≤ j → j < length h₀.0 → SameAt (length s) h₀ h j

pub same_size : (h : Held) → SameSize h h
same_size h = record { reaches = refl; counts = refl; tests = refl }

pub then : {h h1 h2 : Held} → SameSize h h1 → SameSize h1 h2 → SameSize h h2
then p q = record { reaches = q.reaches ∙ p.reaches; counts = q.counts ∙ p.counts; tests = q.tests ∙ p.tests }

pub start : {alone : Bool} {c fs : List ℕ} (bs : List ℕ) {n : ℕ} {s : Node} (level : ℕ) (h : Held) {w : List ℕ} → (alone ≡ false → take n w ≡ good_of c s n) → SoFar alone c fs bs n s level h h w w 0
start bs level h g = record {
  sizes = same_size h;
  room = refl;
  good = g;
  done = λ j l. absurd (omega arith);
  rest = λ j l b. record { reach = refl; count = refl; test = refl };
}

-- the list is as long as it was
pub ready_still : {c fs : List ℕ} {n inputs b : ℕ} {h h' : Held} {x y : ℕ} → SameSize h h' → y ≡ x
    → ListReady c fs n inputs b (length h.0) (length h.1) (length h.2) x → ListReady c fs n inputs b (length h'.0) (length h'.1) (length h'.2) y
ready_still s e r = rw (s.reaches, s.counts, s.tests, e) r

module _ {alone : Bool} {c fs bs : List ℕ} {n : ℕ} {s : Node} {level : ℕ} {h₀ h : Held} {w₀ w : List ℕ} {i : ℕ} (so : SoFar alone c fs bs n s level h₀ h w₀ w i) where
  -- the next fault may come
  pub next-ready : MeetAllReady alone c fs n s level (length bs) (length h₀.0) (length h₀.1) (length h₀.2) w₀ → MeetAllReady alone c fs n s level (length bs) (length h.0) (length h.1) (length h.2) w
  next-ready r = record { list = ready_still so.sizes so.room r.list; node = r.node; good = so.good; levels = r.levels; below = r.below }

  pub more : {h' : Held} {w' : List ℕ} → i < length h₀.0 → SameSize h h' → length w' ≡ length w → MeetAtDone alone c fs bs n s level i h h' w' → SoFar alone c fs bs n s level h₀ h' w₀ w' (i + 1)
  more {h'} {w'} l sizes room p = record {
    sizes = then so.sizes sizes;
    room = room ∙ so.room;
    good = p.good;
    done = λ j b inside. come j b inside (ℕ_discrete j i);
    rest = λ j b inside.
        let before = so.rest j (omega arith) inside in
        let stays = p.others j (omega (arith, so.sizes.reaches)) (λ e. absurd (omega arith)) in
        record { reach = stays.reach ∙ before.reach; count = stays.count ∙ before.count; test = stays.test ∙ before.test };
  }
    where
      come : (j : ℕ) → j < i + 1 → j < length h₀.0 → Dec (j ≡ i) → MetAt alone c fs bs n s level h₀ h' j
      come j b inside (yes e) = let before = so.rest j (omega arith) inside in rw (← before.reach, ← before.count, ← before.test) (rw (← e) at p.met)
      come j b inside (no d) =
          let stays = p.others j (omega (arith, so.sizes.reaches)) d in
          rw (stays.reach, stays.count, stays.test) (so.done j (omega arith) inside)

-- The loop over the lines: each line in turn gets its value in every lane, and in one lane that is simulation.
-- Assumes nothing.
use mathlib.Core.Path.{◌≡◌, refl, ◌∙◌}
use mathlib.Core.List.{List}
use Prim.Native.Nat.{ℕ, ◌+◌, ◌≤◌, ◌<◌}
use native.Mathlib.Omega.{arith}
use lib.ListN.{length, set}
use Rattle.lanes.specs.declared.Lanes.{Lanes}
use Rattle.simulate.specs.Simulate.{unforced}
use Rattle.simulate.specs.Owed.{line_in, Any}
use Rattle.simulate.proofs.Settled as settled
use Rattle.lane_lines.specs.Owed.{LinesReady, LineDone, EachLane, SimulateWordsDone}
use Rattle.lane_lines.proofs.Words.{put_at, put_long, put_carries}

-- w₀ at the start, w when the loop comes to line k
pub record SoFar (c : List ℕ) (n : ℕ) (w₀ : List ℕ) (start end : ℕ) (w : List ℕ) (k : ℕ) : Type 0 where
  pub long : length w ≡ length w₀
  pub lanes : EachLane (λ vs us. settled.SoFar Any c vs start end us k) n w₀ w

pub start : (c : List ℕ) (n : ℕ) (w : List ℕ) (k end : ℕ) → k ≤ end → SoFar c n w k end w k
start c n w k end h = record {
  long = refl;
  lanes = λ vs held. record { lane = vs; carries = held; each = λ i. settled.start Any c (vs i) k end h };
}

module _ {c : List ℕ} {n : ℕ} {w₀ : List ℕ} {start end : ℕ} {w : List ℕ} {k : ℕ} (so : SoFar c n w₀ start end w k) where
  pub still : LinesReady c n (length w₀) → LinesReady c n (length w)
  still r = rw so.long r

  pub more : {a : Lanes} → LinesReady c n (length w₀) → end ≤ n → k < end → LineDone unforced c n w k a → SoFar c n w₀ start end (put_at w k a) (k + 1)
  more {a} ready inside l line = record {
    long = put_long w k a ∙ so.long;
    lanes = λ vs held.
        let before = so.lanes vs held in
        record {
          lane = λ i. set (before.lane i) k (line_in unforced c (before.lane i) k);
          carries = put_carries before.carries (omega arith) (λ i. line_in unforced c (before.lane i) k) (line before.lane before.carries);
          each = λ i. settled.more (before.each i) (rw (held.values i) ready.ordered) (rw (held.values i) inside) l (λ f p _ s left. refl);
        };
  }

  pub finished : end ≤ k → SimulateWordsDone c n w₀ start end w
  finished l vs held =
      let all = so.lanes vs held in
      record { lane = all.lane; carries = all.carries; each = λ i. settled.finished (all.each i) l }

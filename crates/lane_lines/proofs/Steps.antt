-- The loop that goes from the fault's line in one step to its line in the next: in each lane it is that of `simulate`.
-- Assumes nothing.
use mathlib.Core.Path.{◌≡◌, refl, sym, ◌∙◌}
use mathlib.Core.List.{List}
use Prim.Native.Nat.{ℕ, ◌+◌, ◌≤◌, ◌<◌, min}
use lib.ListN.{length}
use Rattle.lists.specs.declared.Fault.{Fault}
use Rattle.simulate.specs.Simulate.{stuck_in_steps}
use Rattle.simulate.specs.Owed.{Any, StepsReady}
use Rattle.simulate.proofs.Steps as steps
use Rattle.simulate.proofs.Steps.{on_line}
use Rattle.lane_lines.specs.Owed.{EachLane, FaultLinesDone, ForcedLinesDone}

module _ (fault : Fault) (step : ℕ) where
  -- w₀ at the start, w when it comes to the fault's line in some step, or to the end
  pub record SoFar (c : List ℕ) (n : ℕ) (w₀ w : List ℕ) (line : ℕ) : Type 0 where
    pub long : length w ≡ length w₀
    pub lanes : EachLane (λ vs us. steps.SoFar fault step Any c vs us line) n w₀ w

  pub start : (c : List ℕ) (n : ℕ) (w : List ℕ) → StepsReady fault step n → SoFar c n w w fault.line
  start c n w r = record {
    long = refl;
    lanes = λ vs held. record { lane = vs; carries = held; each = λ i. steps.start fault step Any c (vs i) (rw (held.values i) r) };
  }

  module _ {c : List ℕ} {n : ℕ} {w₀ w : List ℕ} {line : ℕ} (so : SoFar c n w₀ w line) where
    pub more : {w' : List ℕ} {end : ℕ}
        → line < n
        → end ≡ min (line + step) n
        → length w' ≡ length w
        → FaultLinesDone (on_line fault step line) c n w end w'
        → SoFar c n w₀ w' (line + step)
    more l small same done = record {
      long = same ∙ so.long;
      lanes = λ vs held.
          let before = so.lanes vs held in
          let made = done before.lane before.carries in
          record {
            lane = made.lane;
            carries = made.carries;
            each = λ i.
                steps.more fault step (before.each i) (rw (held.values i) l) (rw (held.values i) small) (made.carries.values i ∙ sym (before.carries.values i))
                (made.each i);
          };
    }

    pub finished : n ≤ line → ForcedLinesDone (stuck_in_steps step fault) c n w₀ w
    finished l vs held =
        let all = so.lanes vs held in
        record { lane = all.lane; carries = all.carries; each = λ i. steps.finished fault step (all.each i) (rw (held.values i) l) }

-- The lines of a faulty circuit in every lane: the fault's line is set, and the lines after it are simulated as any; and the second half of the work memory.
-- Assumes nothing.
use mathlib.Core.Path.{◌≡◌, refl, sym, ap, ◌∙◌}
use mathlib.Core.List.{List, ◌++◌}
use Prim.Native.Nat.{ℕ, ◌+◌, ◌*◌, ◌<◌}
use native.Mathlib.Omega.{arith}
use lib.ListN.{length, take}
use Rattle.ground.proofs.Grow.{grow-length}
use Rattle.lanes.specs.declared.Lanes.{Lanes}
use Rattle.lists.specs.declared.Fault.{Fault}
use Rattle.simulate.specs.Simulate.{Forcing, unforced, stuck_at, line_value, values_to}
use Rattle.simulate.specs.Work.{good_of}
use Rattle.simulate.specs.Owed.{line_in}
use Rattle.simulate.proofs.Below.{fault_simulated}
use Rattle.simulate.proofs.Halves.{lent_half, filled, lent_is, filled_is}
use Rattle.lane_lines.specs.Lines.{lane_pattern, good_words, forced_words}
use Rattle.lane_lines.specs.Owed.{Carries, LinesReady, LineDone, SimulateWordsDone, FaultLinesDone, ForcedLinesDone, ForcedWordsDone}
use Rattle.lane_lines.proofs.Words.{put_at, put_carries, words_carry, words_are, carries_same}

module _ (fault : Fault) {c : List ℕ} {n : ℕ} {w w' : List ℕ} {a : Lanes} {end : ℕ} (ready : LinesReady c n (length w)) (inside : fault.line < n) where
  pub fault_lines_made : LineDone (stuck_at fault) c n w fault.line a
      → SimulateWordsDone c n (put_at w fault.line a) (fault.line + 1) end w'
      → FaultLinesDone fault c n w end w'
  fault_lines_made line simulated vs held =
      let made = simulated _ (put_carries held inside (λ i. line_in (stuck_at fault) c (vs i) fault.line) (line vs held)) in
      record {
        lane = made.lane;
        carries = made.carries;
        each = λ i. fault_simulated fault (rw (held.values i) ready.ordered) (omega (arith, held.values i)) (λ f p _ _ s. refl) (made.each i);
      }

-- the second half of the work memory, lent with the good lines in it
pub adds_forced_words : (f : Forcing) (c : List ℕ) (n h : ℕ) (w w' u : List ℕ)
    → h ≡ 2 * n
    → length w ≡ h + h
    → w' ≡ take h w ++ take h w
    → ForcedLinesDone f c n (lent_half h w') u
    → ForcedWordsDone f c n w (filled h w' u)
adds_forced_words f c n h w w' u two long copied done m ps good = filled_is h w w' u long copied ∙ rw (two, good, forced)
  where
    size : (i : ℕ) → length (good_of c (lane_pattern m ps i) n) ≡ n
    size i = grow-length (line_value unforced c (lane_pattern m ps i)) n

    lent : lent_half h w' ≡ good_words c m ps n
    lent = lent_is h w w' u long copied ∙ rw two good

    held : Carries (λ i. good_of c (lane_pattern m ps i) n) n (lent_half h w')
    held = rw lent (words_carry (λ i. good_of c (lane_pattern m ps i) n) n size)

    forced : u ≡ forced_words f c m ps n
    forced =
        let made = done (λ i. good_of c (lane_pattern m ps i) n) held in
        words_are (λ i. values_to f c (lane_pattern m ps i) n) n
        (carries_same
        (λ i. made.each i (lane_pattern m ps i) tt (ap (good_of c (lane_pattern m ps i)) (sym (size i))) ∙ ap (values_to f c (lane_pattern m ps i)) (size i))
        made.carries)

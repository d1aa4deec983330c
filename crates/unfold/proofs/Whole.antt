-- The whole: the data lines marked in memory of its size, and that the numbers are small.
-- Assumes nothing.
use mathlib.Core.Path.{◌≡◌, ap, ◌∙◌}
use mathlib.Core.List.{List}
use Prim.Native.Nat.{ℕ, ◌*◌, ◌≤◌}
use native.Mathlib.Nat.{zero-mul}
use native.Mathlib.Omega.{arith}
use lib.ListN.{length}
use Rattle.states.specs.Rules.{lines_after}
use Rattle.unfold.specs.Owed.{UnfoldingReady, UnfoldInReady, MarkDataReady, MarkDataDone, DataMarkedReady}
use Rattle.unfold.proofs.Line.{step_few}

module _ {c st : List ℕ} {n k : ℕ} (ready : UnfoldingReady c st n k) where
  pub few_lines : n ≤ 2048
  few_lines = omega (arith, rw zero-mul at (step_few ready 0 ready.steps.some_steps))

  pub lines_after_lem : k * n ≡ lines_after c k
  lines_after_lem = ap (λ (l : ℕ). k * l) ready.lines

  pub few_after : k * n ≤ 2048
  few_after = omega (arith, lines_after_lem, ready.steps.most_lines)

module _ {c st : List ℕ} {n k : ℕ} {marks u : List ℕ} (m : UnfoldInReady c st n k marks u) where
  pub not-marked : MarkDataReady st marks
  not-marked = record {
    unset = m.unset;
    whole = m.all.ready.steps.records;
    inside = λ r l. omega (arith, m.marks_long, m.all.ready.lines, (m.all.ready.steps.layout r l).data_inside);
  }

  pub are_marked : {marks' : List ℕ} → length marks' ≡ length marks → MarkDataDone st marks' → DataMarkedReady c st marks' n k
  are_marked long done = record { ready = m.all.ready; marks_long = long ∙ m.marks_long; marked = done }

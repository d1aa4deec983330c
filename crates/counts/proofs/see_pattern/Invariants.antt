-- `counts::see_pattern` meets its contract. The invariant: the first f faults are seen.
-- Assumes nothing.
use mathlib.Core.Path.{◌≡◌}
use lib.ListN.{length}
use Rattle.counts.proofs.Detected.{SawTo}
use Rattle.counts.proofs.see_pattern.Given as goal

abbrev pub invariant-loop-f : goal.invariant-loop-f
invariant-loop-f l =
    (length l.seen ≡ length l.initial.seen) × SawTo l.table l.from l.initial.seen l.f l.seen

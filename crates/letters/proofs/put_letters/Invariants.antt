-- `letters::put_letters` meets its contract. The invariant: the first i letters stand.
-- Assumes nothing.
use lib.ListN.{length}
use mathlib.Core.List.{map}
use mathlib.Core.Path.{◌≡◌}
use Rattle.letters.specs.Text.{letter_of}
use Rattle.ground.proofs.Put.{Partly}
use Rattle.letters.proofs.put_letters.Given as goal

abbrev pub invariant-loop-i : goal.invariant-loop-i
invariant-loop-i l = (length l.out ≡ length l.initial.out) × Partly (map letter_of l.row) l.initial.out l.at l.out l.i

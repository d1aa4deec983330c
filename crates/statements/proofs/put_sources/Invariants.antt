-- `statements::put_sources` meets its contract: the lines are taken one after the other, and a gate's sources stay.
-- Assumes nothing.
use Rattle.statements.proofs.Filling.{Filling}
use Rattle.forms.specs.Forms.{says_gate}
use Rattle.forms.specs.Lines.{word_in}
use Prim.Native.Nat.{◌-◌}
use lib.ListN.{length, get_or}
use Rattle.statements.proofs.put_sources.Given as goal

abbrev pub invariant-loop-k : goal.invariant-loop-k
invariant-loop-k l =
    Filling (says_gate l.forms) (λ i. word_in l.words l.ends i 2) (length l.forms) l.firsts l.g l.k
    × Filling (says_gate l.forms) (λ i. word_in l.words l.ends i (get_or l.forms i 0 - 1)) (length l.forms) l.seconds l.g l.k

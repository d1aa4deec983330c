-- `statements::put_outs` meets its contract: the lines are taken one after the other, and an output's name stays.
-- Assumes nothing.
use Rattle.statements.proofs.Filling.{Filling}
use Rattle.forms.specs.Forms.{says_output}
use Rattle.forms.specs.Lines.{word_in}
use lib.ListN.{length}
use Rattle.statements.proofs.put_outs.Given as goal

abbrev pub invariant-loop-k : goal.invariant-loop-k
invariant-loop-k l = Filling (says_output l.forms) (λ i. word_in l.words l.ends i 1) (length l.forms) l.outs l.d l.k

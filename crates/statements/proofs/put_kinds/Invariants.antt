-- `statements::put_kinds` meets its contract: the lines are taken one after the other, and a gate's kind stays.
-- Assumes nothing.
use Rattle.statements.proofs.Filling.{Filling}
use Rattle.forms.specs.Forms.{says_gate}
use Rattle.forms.specs.Lines.{word_in}
use Rattle.syntax.specs.Kinds.{kind_of}
use Rattle.words.specs.Words.{word_at}
use lib.ListN.{length}
use Rattle.statements.proofs.put_kinds.Given as goal

abbrev pub invariant-loop-k : goal.invariant-loop-k
invariant-loop-k l = Filling (says_gate l.forms) (λ i. kind_of (word_at l.text (word_in l.words l.ends i 1))) (length l.forms) l.kinds l.g l.k

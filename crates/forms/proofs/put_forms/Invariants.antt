-- `forms::put_forms` meets its contract: the lines are taken one after the other.
-- Assumes nothing.
use Rattle.forms.proofs.Forms.{Forming}
use Rattle.forms.proofs.put_forms.Given as goal

abbrev pub invariant-loop-k : goal.invariant-loop-k
invariant-loop-k l = Forming l.text l.words l.ends l.forms l.gates l.k

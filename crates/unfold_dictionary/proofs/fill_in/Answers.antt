-- `unfold_dictionary::fill_in` meets its contract: the circuit is unfolded, its table filled, and the last values left.
-- Assumes nothing.
use native.Mathlib.Omega.{arith}
use Rattle.unfold_dictionary.proofs.Filled.{few_lines, unfold_ready, groups_ready, leave_ready, filled}
use Rattle.unfold_dictionary.proofs.fill_in.Goals as goal

pub overflow_mul-lines : goal.overflow_mul-lines
overflow_mul-lines c = omega (arith, few_lines c.requires.ready)

pub unfold_lines-requires : goal.unfold_lines-requires
unfold_lines-requires c =
    unfold_ready c.requires.ready _ c.requires.fits

pub fill_groups_in_steps-requires : goal.fill_groups_in_steps-requires
fill_groups_in_steps-requires c =
    groups_ready c.requires.ready c.unfold_lines.ensures c.requires.words_fit

pub leave_last-requires : goal.leave_last-requires
leave_last-requires c =
    leave_ready c.requires.ready c.unfold_lines.ensures

pub returns : goal.returns
returns c =
    filled c.requires.ready c.unfold_lines.ensures c.fill_groups_in_steps.ensures c.leave_last.ensures

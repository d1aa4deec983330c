-- `search_heads::run_either` meets its contract: the mark of the fault's line decides which search runs.
-- Assumes nothing.
use native.Mathlib.Omega.{arith}
use Rattle.search_heads.proofs.Answer.{heads_ready, over_heads, over_inputs}
use Rattle.search_heads.proofs.run_either.Goals as goal

pub bounds-marks-line : goal.bounds-marks-line
bounds-marks-line c =
    omega (arith, c.requires.marked.long, c.requires.run.ready.line)

pub run_heads-requires : goal.run_heads-requires
run_heads-requires c = heads_ready c.requires

pub returns-then-served_by : goal.returns-then-served_by
returns-then-served_by c =
    over_heads c.requires c.served_by.ensures c.if-served_by.true c.run_heads.ensures

pub run_all_x-requires : goal.run_all_x-requires
run_all_x-requires c =
    (omega (arith, c.requires.known.inputs, c.requires.known.good.most_inputs), c.requires.run)

pub returns : goal.returns
returns c =
    over_inputs c.requires c.served_by.ensures c.if-served_by.false c.run_all_x.ensures

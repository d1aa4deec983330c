-- `meetings::go_alone` meets its contract: the verdict of a search from the node on, with what is left of the budget.
-- Assumes nothing.
use mathlib.Core.Path.{sym}
use mathlib.Core.Bool.{false≢true}
use Prim.Native.Nat.{◌-◌}
use native.Mathlib.Omega.{arith}
use Rattle.standings.proofs.Meeting.{met_alone}
use Rattle.sides.specs.Look.{look_of}
use Rattle.meetings.proofs.Alone.{run_ready, nodes_fit}
use Rattle.meetings.proofs.go_alone.Goals as goal

pub run_from-found-requires : goal.run_from-found-requires
run_from-found-requires c = run_ready c.requires.0

pub overflow_add-result : goal.overflow_add-result
overflow_add-result c =
    omega (arith, c.nodes_of.ensures, nodes_fit (look_of c.args.search.fault c.args.search.circuit.now c.args.search.lines) (c.args.search.budget - c.args.count) c.args.node.now c.run_from-found.ensures.verdict)

pub returns : goal.returns
returns c =
    let p = c.requires.0 in
    let done = c.run_from-found.ensures in
    record {
      met = λ m l. record {
        nodes_met = λ e. rw (c.reach_by.ensures, c.nodes_of.ensures) (met_alone c.args.node.now p.levels l c.requires.1 done.verdict done.test);
        node_met = λ e. absurd (false≢true (sym e));
      };
      good = λ e. absurd (false≢true (sym e));
    }

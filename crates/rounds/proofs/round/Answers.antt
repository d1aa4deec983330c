-- `rounds::round` meets its contract: where no fault looks at the level nothing is done, few go on alone, else every fault comes to the node.
-- Assumes nothing.
use mathlib.Core.Path.{refl, sym, ap, ◌∙◌}
use mathlib.Core.Bool.{false≢true}
use native.Mathlib.Omega.{arith}
use lib.ListN.{length, take, drop}
use Rattle.ground.proofs.Counting.{count_most}
use Rattle.nodes.proofs.Node.{x_inside, x_nowhere}
use Rattle.simulate.proofs.Work.{good_front}
use Rattle.standings.proofs.Levels.{met_none, met_last}
use Rattle.sides.proofs.Look.{node_small}
use Rattle.meetings.proofs.Coming.{same_size, ready_still}
use Rattle.rounds.specs.Owed.{looks_at}
use Rattle.rounds.proofs.None.{none_looks}
use Rattle.rounds.proofs.round.Goals as goal

pub returns-then-some-eq-NOBODY : goal.returns-then-some-eq-NOBODY
returns-then-some-eq-NOBODY c =
    let none = none_looks c.args.reaches.now c.args.level (sym c.looking-some.ensures ∙ c.if-some-eq-NOBODY.true) in
    record {
      first = λ h. absurd (omega arith);
      met = λ h. absurd (omega arith);
      over = λ h j b. met_none (none j b);
    }

pub few-requires : goal.few-requires
few-requires c =
    let list = c.requires.list in (
      omega (arith, c.looking-some.ensures, count_most (length c.args.reaches.now) (looks_at c.args.reaches.now c.args.level), list.most_faults),
      list.most_lines,
      list.most_faults,
    )

pub meet_all-requires : goal.meet_all-requires
meet_all-requires c =
    record { list = c.requires.list; node = c.requires.node; good = λ e. absurd (false≢true (sym e)); levels = c.requires.levels; below = omega (arith, c.requires.most) }

pub returns-then-few : goal.returns-then-few
returns-then-few c =
    record {
      first = λ h. absurd (omega arith);
      met = λ h. absurd (omega arith);
      over = λ h j b. (c.meet_all.ensures j b).nodes_met refl;
    }

pub good_values-requires : goal.good_values-requires
good_values-requires c =
    record { shaped = c.requires.list.shaped; small = node_small c.requires.node; two = c.requires.list.two }

pub meet_all-requires-2 : goal.meet_all-requires-2
meet_all-requires-2 c =
    record {
      list = ready_still (same_size (c.args.reaches.now, c.args.counts.now, c.args.tests.now)) c.good_values.auto.work c.requires.list;
      node = c.requires.node;
      good = λ e. ap (take c.args.list.lines) c.good_values.ensures ∙ good_front c.args.list.circuit.now c.args.node.now c.args.list.lines (drop c.args.list.lines c.args.work.now);
      levels = c.requires.levels;
      below = omega (arith, c.requires.most);
    }

pub returns : goal.returns
returns c =
    let s = c.args.node.now in
    record {
      first = λ h. x_inside c.first_x.ensures h;
      met = λ h. c.meet_all-2.ensures;
      over = λ h j b. met_last (x_nowhere s c.first_x.ensures h) ((c.meet_all-2.ensures j b).node_met refl);
    }

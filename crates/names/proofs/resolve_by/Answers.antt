-- `names::resolve_by` meets its contract: the lowest byte of a wrong name is handed on from list to list.
-- Assumes nothing.
use mathlib.Core.Path.{◌∙◌}
use native.Mathlib.Omega.{arith}
use Rattle.names.proofs.Loops.{entered_most, looked_most}
use Rattle.names.proofs.Ruled.{ruled}
use Rattle.names.proofs.resolve_by.Goals as goal

pub look_up-out-requires : goal.look_up-out-requires
look_up-out-requires c =
    record {
      table = c.enter-twice.ensures.table;
      room = c.requires.0.for_outs;
      so_far = entered_most c.enter-twice.ensures;
    }

pub look_up-first-requires : goal.look_up-first-requires
look_up-first-requires c =
    record {
      table = c.enter-twice.ensures.table;
      room = c.requires.0.for_firsts;
      so_far = omega (arith, entered_most c.enter-twice.ensures, looked_most c.look_up-out.ensures);
    }

pub look_up-second-requires : goal.look_up-second-requires
look_up-second-requires c =
    record {
      table = c.enter-twice.ensures.table;
      room = c.requires.0.for_seconds;
      so_far = omega (arith, entered_most c.enter-twice.ensures, looked_most c.look_up-out.ensures, looked_most c.look_up-first.ensures);
    }

pub returns : goal.returns
returns c =
    record {
      ruling =
          c.rule_names.ensures
          ∙ ruled c.requires.0
          c.enter-twice.result c.look_up-out.result c.look_up-first.result c.look_up-second.result
          c.enter-twice.ensures.place c.look_up-out.ensures.place c.look_up-first.ensures.place c.look_up-second.ensures.place;
      outs_are = c.look_up-out.ensures.numbers_are;
      firsts_are = c.look_up-first.ensures.numbers_are;
      seconds_are = c.look_up-second.ensures.numbers_are;
    }

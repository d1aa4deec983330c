-- `search_heads::mark_and_run` meets its contract: the marks are made, and what counted the readings is free again.
-- Assumes nothing.
use mathlib.Core.Path.{◌∙◌}
use Rattle.search_heads.proofs.Answer.{mark-ready, either-ready}
use Rattle.search_heads.proofs.mark_and_run.Goals as goal

pub mark_lines-requires : goal.mark_lines-requires
mark_lines-requires c = mark-ready c.requires

pub run_either-requires : goal.run_either-requires
run_either-requires c =
    either-ready c.requires (c.mark_lines.auto.reads ∙ c.requires.long) c.mark_lines.ensures

pub returns : goal.returns
returns c = c.run_either.ensures

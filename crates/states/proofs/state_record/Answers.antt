-- `states::state_record` meets its contract: the first of all records with this state line, or their number.
-- Assumes nothing.
use mathlib.Core.Path.{ap, ◌∙◌}
use Rattle.std.proofs.Common.{rules}
use Rattle.std.specs.Option.{unwrap_or}
use borrow.Author.Tests.{tests}
use Rattle.ground.proofs.First.{or-failing}
use Rattle.ground.proofs.Search.{find_over}
use Rattle.states.specs.States.{state_count, state_record}
use Rattle.states.proofs.state_record.Goals as goal

pub returns : goal.returns
unfolding state_record
returns c =
    c.unwrap_or.ensures
    ∙ ap (λ o. unwrap_or o (state_count c.args.states.now)) (find_over _ _ _ _ c.find.ensures.ran (λ x q k l. search (rules, tests)) (λ x q k. search (rules, tests)))
    ∙ or-failing _ _

-- `search::run` meets its contract: what `side` leaves in the node is the test, where there is one.
-- Assumes nothing.
use mathlib.Core.Path.{◌∙◌}
use Rattle.nodes.proofs.Ways.{left_test}
use Rattle.search.proofs.run.Goals as goal

pub returns : goal.returns
returns c =
    let s = c.side-found.ensures in
    let test = c.args.test.now in
    record { verdict = s.verdict; test = c.put_test.ensures ∙ left_test s test; work = s.memory }

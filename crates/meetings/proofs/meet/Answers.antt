-- `meetings::meet` meets its contract: the budget is spent, or the fault goes on, alone or not.
-- Assumes nothing.
use mathlib.Core.Path.{sym}
use native.Mathlib.Omega.{arith}
use Rattle.standings.proofs.Meeting.{met_spent}
use Rattle.meetings.proofs.Alone.{ready_so, done_so}
use Rattle.meetings.proofs.meet.Goals as goal

pub returns-then-search-count : goal.returns-then-search-count
returns-then-search-count c =
    record { met = λ m l. met_spent c.requires.levels l c.args.alone (omega arith); good = c.requires.good }

pub go_alone-requires : goal.go_alone-requires
go_alone-requires c =
    (ready_so c.if-alone.true c.requires, omega arith)

pub returns-then-alone : goal.returns-then-alone
returns-then-alone c =
    done_so (sym c.if-alone.true) c.go_alone.ensures

pub look_once-requires : goal.look_once-requires
look_once-requires c =
    (ready_so c.if-alone.false c.requires, omega arith)

pub returns : goal.returns
returns c =
    done_so (sym c.if-alone.false) c.look_once.ensures

-- `nets::read_names_in` meets its contract: refusal 15, or the net with numbers for names.
-- Assumes nothing.
use Rattle.answers.proofs.Answer.{handed_on}
use Rattle.nets.proofs.Names.{firsts_long, unnamed, resolved, read_numbers_lem}
use mathlib.Core.Path.{sym, ◌∙◌}
use Rattle.nets.proofs.read_names_in.Goals as goal

pub returns-in_err-resolve : goal.returns-in_err-resolve
returns-in_err-resolve c =
    rw (handed_on c.from_residual.ensures.1) (unnamed c.requires.read_names_ready c.resolve.ensures c.in_err-resolve.was)

pub read_net-requires : goal.read_net-requires
read_net-requires c =
    let done = c.resolve.ensures in
    (resolved c.requires.read_names_ready done c.in_ok-resolve.was, c.requires.a_len.3 ∙ sym (firsts_long c.requires.read_names_ready done))

pub returns : goal.returns
returns c = read_numbers_lem c.requires.read_names_ready c.resolve.ensures c.in_ok-resolve.was c.read_net.ensures

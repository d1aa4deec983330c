-- `bench_names::bench_names_in` meets its contract: a refusal of the reader is handed on, else the places that it found are handed over.
-- Assumes nothing.
use Rattle.answers.proofs.Answer.{handed_on}
use Rattle.bench_names.proofs.Answer.{names_refused, names_found}
use Rattle.bench_names.proofs.bench_names_in.Goals as goal

pub returns-in_err-n : goal.returns-in_err-n
returns-in_err-n c = rw (handed_on c.from_residual.ensures.1) (names_refused _ c.requires.1 c.read_text.ensures c.in_err-n.was)

pub returns : goal.returns
returns c = names_found _ c.requires.1 c.read_text.ensures c.in_ok-n.was c.hand_over.ensures

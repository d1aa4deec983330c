-- `bench::read_text` meets its contract: refusal 14, or what the words say.
-- Assumes nothing.
use Rattle.answers.proofs.Answer.{handed_on, first_refused, first_fine}
use Rattle.syntax.proofs.Says.{right_text}
use mathlib.Core.Path.{sym, ◌∙◌}
use Rattle.bench.proofs.read_text.Goals as goal

pub returns-in_err-check_text : goal.returns-in_err-check_text
returns-in_err-check_text c =
    rw (handed_on c.from_residual.ensures.1) (first_refused _ _ (sym c.check_text.ensures ∙ c.in_err-check_text.was))

pub read_words-requires : goal.read_words-requires
read_words-requires c = ((right_text _ (sym c.check_text.ensures ∙ c.in_ok-check_text.was)).room, c.requires)

pub returns : goal.returns
returns c = first_fine _ _ (sym c.check_text.ensures ∙ c.in_ok-check_text.was) c.read_words.ensures

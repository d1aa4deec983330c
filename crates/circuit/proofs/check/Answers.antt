-- `circuit::check` meets its contract: a refusal of the layout, else the counts decide.
-- Assumes nothing.
use mathlib.Core.Path.{sym, ◌∙◌}
use Rattle.circuit.proofs.Answer.{checks, size_refused, line_refused, layout_fine}
use Rattle.circuit.proofs.check.Goals as goal

pub returns-then-not-records_ok : goal.returns-then-not-records_ok
returns-then-not-records_ok c = checks _ (sym (size_refused _ (sym c.records_ok.ensures ∙ c.if-not-records_ok.true)))

pub returns-then-bad-n : goal.returns-then-bad-n
returns-then-bad-n c =
    checks _ (sym (line_refused _ (sym c.records_ok.ensures ∙ c.if-not-records_ok.false) c.count_lines-counts.ensures c.if-bad-n.true))

pub returns : goal.returns
returns c =
    checks _
    (layout_fine _ (sym c.records_ok.ensures ∙ c.if-not-records_ok.false) c.count_lines-counts.ensures
    c.if-bad-n.false c.counted.ensures)

-- `syntax::walk` meets its contract: the rows are walked, byte by byte.
-- Assumes nothing.
use Rattle.syntax.proofs.Rows.{first_row}
use Rattle.syntax.proofs.Reader.{start, full, stops, more, ended, early}
use Rattle.syntax.specs.Derivative.{next}
use mathlib.Core.Path.{◌∙◌, ap}
use native.Mathlib.Omega.{arith}
use Rattle.syntax.proofs.walk.Goals as goal

pub loop-i-init : goal.loop-i-init
loop-i-init c = (start _, first_row)

pub returns-then-i-eq-MOST_BYTES : goal.returns-then-i-eq-MOST_BYTES
returns-then-i-eq-MOST_BYTES c = full c.loop-i.invariant.0 (omega arith) c.if-i-eq-MOST_BYTES.true

pub symbol_of-requires : goal.symbol_of-requires
symbol_of-requires c = c.requires.0

pub step-n-requires : goal.step-n-requires
step-n-requires c = (c.requires.1, c.loop-i.invariant.1, omega arith)

pub returns-then-n-eq0 : goal.returns-then-n-eq0
returns-then-n-eq0 c =
    let next_is = c.step-n.ensures.0 ∙ ap (next _) c.symbol_of.ensures.0 in
    stops c.loop-i.invariant.0 (omega arith) next_is c.step-n.ensures.1.inside (omega arith) (omega (arith, c.if-n-eq0.true))

pub loop-i-preserved : goal.loop-i-preserved
loop-i-preserved c =
    let row = c.step-n.ensures.1 in
    let next_is = c.step-n.ensures.0 ∙ ap (next _) c.symbol_of.ensures.0 in
    (more c.loop-i.invariant.0 (omega arith) next_is row.inside (omega arith) (omega (arith, c.if-n-eq0.false, row.begins)), row)

pub returns-then-q-lt-NO_END : goal.returns-then-q-lt-NO_END
returns-then-q-lt-NO_END c = ended c.loop-i.invariant.0 (omega arith) (omega (arith, c.if-q-lt-NO_END.true))

pub returns : goal.returns
returns c = early c.loop-i.invariant.0 (omega arith) (omega (arith, c.if-q-lt-NO_END.false))

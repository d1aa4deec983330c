-- `words::same_word` meets its contract: both words are walked until they differ or end.
-- Assumes nothing.
use Rattle.words.proofs.Same.{inside, read_byte, read_inside, same_more, same_not, same_end}
use Rattle.words.specs.Words.{word_byte}
use mathlib.Core.Bool.{not}
use mathlib.Core.Path.{refl, sym, ap, ◌∙◌}
use native.Mathlib.Omega.{arith}
use Rattle.words.proofs.same_word.Goals as goal

pub returns-then-byte : goal.returns-then-byte
returns-then-byte c =
    sym
    (c.loop-i.invariant
    ∙ same_not c.args.text.now c.loop-i.x c.loop-i.y (read_byte c.byte.ensures c.is_word.ensures c.loop-i-test.true)
    (λ e. c.if-byte.true (c.byte-in-loop-i.ensures ∙ e ∙ sym c.byte-in-loop-i-2.ensures)))

pub overflow_add-x : goal.overflow_add-x
overflow_add-x c =
    omega (arith, read_inside c.args.text.now c.loop-i.x c.byte.ensures c.is_word.ensures c.loop-i-test.true)

-- the byte at y is that at x
pub overflow_add-y : goal.overflow_add-y
overflow_add-y c =
    let same_byte = sym c.byte-in-loop-i.ensures ∙ c.if-byte.false ∙ c.byte-in-loop-i-2.ensures in
    let word = read_byte c.byte.ensures c.is_word.ensures c.loop-i-test.true in
    omega (arith, inside c.args.text.now c.loop-i.y (ap word_byte same_byte ∙ word))

pub loop-i-smaller : goal.loop-i-smaller
loop-i-smaller c =
    omega (arith, read_inside c.args.text.now c.loop-i.x c.byte.ensures c.is_word.ensures c.loop-i-test.true)

pub loop-i-preserved : goal.loop-i-preserved
loop-i-preserved c =
    c.loop-i.invariant
    ∙ same_more c.args.text.now c.loop-i.x c.loop-i.y (read_byte c.byte.ensures c.is_word.ensures c.loop-i-test.true)
    (sym c.byte-in-loop-i.ensures ∙ c.if-byte.false ∙ c.byte-in-loop-i-2.ensures)

pub returns : goal.returns
returns c =
    let t = c.args.text.now in
    let word = read_byte c.byte.ensures c.is_word.ensures c.loop-i-test.false in
    sym (c.loop-i.invariant ∙ same_end t c.loop-i.x c.loop-i.y word ∙ ap not (read_byte c.byte-2.ensures c.is_word-2.ensures refl))

pub loop-i-init : goal.loop-i-init
loop-i-init c = refl

-- `names::hash` meets its contract: what is left of the word is still to be mixed in.
-- Assumes nothing.
use mathlib.Core.Path.{refl, sym, ap, ◌∙◌}
use Prim.Native.Nat.{ℕ, ◌+◌, ◌*◌, ◌%◌}
use native.Mathlib.Omega.{arith}
use Rattle.words.specs.Words.{word_byte, word_at}
use Rattle.words.proofs.Same.{inside}
use Rattle.names.specs.Owed.{hash_from}
use Rattle.names.proofs.Mixed.{hash_more, hash_end}
use Rattle.names.proofs.hash.Goals as goal

pub loop-h-init : goal.loop-h-init
loop-h-init c = (refl, omega arith)

pub mix-h-requires : goal.mix-h-requires
mix-h-requires c = (omega arith, omega arith)

pub overflow_add-x : goal.overflow_add-x
overflow_add-x c =
    let e = ap word_byte (sym c.byte.ensures) ∙ sym c.is_word.ensures ∙ c.loop-h-test.true in
    omega (arith, inside c.args.text.now c.loop-h.x e)

pub loop-h-smaller : goal.loop-h-smaller
loop-h-smaller c =
    let e = ap word_byte (sym c.byte.ensures) ∙ sym c.is_word.ensures ∙ c.loop-h-test.true in
    omega (arith, inside c.args.text.now c.loop-h.x e)

pub loop-h-preserved : goal.loop-h-preserved
loop-h-preserved c =
    let e = ap word_byte (sym c.byte.ensures) ∙ sym c.is_word.ensures ∙ c.loop-h-test.true in
    let t = c.args.text.now in
    let x = c.loop-h.x in
    let h = c.loop-h.h in
    let mixed = c.mix-h.ensures.0 ∙ ap (λ (b : ℕ). (h * 131 + b) % 8192) (c.from.ensures ∙ c.byte-in-loop-h.ensures) in
    (c.loop-h.invariant.0 ∙ hash_more t x h e ∙ ap (λ (n : ℕ). hash_from n (word_at t (x + 1))) (sym mixed), omega arith)

pub returns : goal.returns
returns c =
    let e = ap word_byte (sym c.byte.ensures) ∙ sym c.is_word.ensures ∙ c.loop-h-test.false in
    let at = c.loop-h in
    (sym (at.invariant.0 ∙ hash_end c.args.text.now at.x at.h e), omega arith)

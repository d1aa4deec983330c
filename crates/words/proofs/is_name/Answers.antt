-- `words::is_name` meets its contract: the keyword is walked, and the word of the text ends where it does.
-- Assumes nothing.
use Rattle.words.proofs.Same.{read_byte}
use Rattle.words.proofs.Keywords.{name-more, name-not, name_end}
use Prim.Native.Nat.{◌+◌}
use mathlib.Core.Bool.{not}
use mathlib.Core.Path.{◌≡◌, refl, sym, ap, ◌∙◌}
use lib.ListN.{length}
use native.Mathlib.Omega.{arith}
use Rattle.words.proofs.is_name.Goals as goal

pub loop-k-init : goal.loop-k-init
loop-k-init c = let z : c.args.at + 0 ≡ c.args.at = omega arith in rw z

pub returns-then-byte-letter : goal.returns-then-byte-letter
returns-then-byte-letter c =
    sym
    (c.loop-k.invariant
    ∙ name-not c.args.text.now c.args.at c.args.name.now c.requires.letters c.loop-k.k (omega arith)
    (λ e. c.if-byte-letter.true (c.byte.ensures ∙ e)))

pub loop-k-preserved : goal.loop-k-preserved
loop-k-preserved c =
    c.loop-k.invariant
    ∙ name-more c.args.text.now c.args.at c.args.name.now c.requires.letters c.loop-k.k (omega arith)
    (sym c.byte.ensures ∙ c.if-byte-letter.false)

pub returns : goal.returns
returns c =
    let name = c.args.name.now in
    let done : c.loop-k.k ≡ length name = omega arith in
    sym
    (rw done at c.loop-k.invariant
    ∙ name_end c.args.text.now c.args.at name c.requires.letters (length name) (omega arith)
    ∙ ap not (read_byte c.byte-2.ensures c.is_word.ensures refl))

-- `head_marks::is_bound` meets its contract: it looks for a pin that makes the line bound.
-- Assumes nothing.
use mathlib.Core.Path.{◌∙◌}
use mathlib.Core.Bool.{Bool}
use Prim.Native.Nat.{ℕ, suc}
use native.Mathlib.Numerals.{add-one}
use Rattle.std.proofs.Common.{rules}
use Rattle.std.proofs.lemmas.Iterator.{serves_from_Range}
use borrow.Author.Tests.{tests}
use Rattle.ground.proofs.Search.{any_over}
use Rattle.gates.proofs.Laws.{few_pins}
use Rattle.circuit.specs.Record.{kind_at, pin_at}
use Rattle.heads.specs.Heads.{some_pin}
use Rattle.head_marks.specs.Owed.{binds}
use Rattle.head_marks.proofs.is_bound.Goals as goal

pub any-requires-clause-callable : goal.any-requires-clause-callable
any-requires-clause-callable c =
    let few = few_pins (kind_at c.args.circuit.now c.args.k) in
    serves_from_Range (λ x q k. search (rules, tests)) (λ x low high. search rules)

pub returns : goal.returns
unfolding some_pin
returns c =
    let binding : ℕ → Bool = λ s. binds c.args.reads.now c.args.marks.now (pin_at c.args.circuit.now c.args.k (suc s)) in
    any_over binding _ _ _ c.any.ensures.ran (λ x q k l. rw (← add-one x) (search (rules, tests))) (λ x q k. rw (← add-one x) (search (rules, tests)))
    ∙ rw c.pins.ensures

-- `order::place` meets its contract. The invariant: what is placed is placed in order, and no gate below the cursor is ready.
-- Assumes nothing.
use mathlib.Core.Path.{sym, ◌∙◌}
use native.Mathlib.Omega.{arith}
use Rattle.order.proofs.Placing.{start, skipped, n_small, more, falls, finished}
use Rattle.order.proofs.place.Goals as goal

pub loop-c-init : goal.loop-c-init
loop-c-init c = start c.requires

pub is_ready-requires : goal.is_ready-requires
is_ready-requires c = (omega arith, omega arith, omega arith)

pub bounds-order-n : goal.bounds-order-n
bounds-order-n c =
    omega (arith, n_small c.loop-c.invariant (omega arith) (sym c.is_ready.ensures ∙ c.if-is_ready.true))

pub loop-c-smaller-then-is_ready : goal.loop-c-smaller-then-is_ready
loop-c-smaller-then-is_ready c =
    falls c.loop-c.invariant (omega arith) (sym c.is_ready.ensures ∙ c.if-is_ready.true) c.back-c.result

pub loop-c-preserved-then-is_ready : goal.loop-c-preserved-then-is_ready
loop-c-preserved-then-is_ready c =
    rw c.narrow.ensures (
    more c.loop-c.invariant (omega arith) (sym c.is_ready.ensures ∙ c.if-is_ready.true)
    c.args.reader.now c.requires.back c.back-c.result (omega arith) (omega arith)
    )

pub loop-c-preserved : goal.loop-c-preserved
loop-c-preserved c = skipped c.loop-c.invariant (omega arith) (sym c.is_ready.ensures ∙ c.if-is_ready.false)

pub returns : goal.returns
returns c = finished c.loop-c.invariant (omega arith)

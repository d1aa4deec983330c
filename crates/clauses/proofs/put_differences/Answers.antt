-- `clauses::put_differences` meets its contract. The invariant: the lines below k have been written, and j of them are outputs.
-- Assumes nothing.
use mathlib.Core.Path.{◌≡◌, ◌∙◌}
use mathlib.Core.List.{List}
use Prim.Native.Nat.{ℕ, ◌+◌, ◌<◌}
use native.Mathlib.Omega.{arith}
use Rattle.std.specs.Int.{from_bool}
use Rattle.circuit.specs.Record.{is_output}
use Rattle.clauses.proofs.Loops.{so_far_none, line_room, difference_room, so_far_more, so_far_all}
use Rattle.ground.proofs.Counting.{Sum, no_sum, sum_small, sum_more}
use Rattle.ground.proofs.Tests.{from_bool-one}
use Rattle.clauses.proofs.put_differences.Goals as goal

pub loop-k-init : goal.loop-k-init
loop-k-init c = (so_far_none _ _ _ _, no_sum _ _)

pub put_difference-next-requires : goal.put_difference-next-requires
put_difference-next-requires c =
    difference_room (line_room c.loop-k.invariant.0 c.requires.circuit c.requires.room c.loop-k-test.true) c.loop-k.invariant.1

-- the output at line k is one more of them
counted : (c : List ℕ) {n k j x : ℕ} → Sum (is_output c) n k j → k < n → x ≡ from_bool (is_output c k) → Sum (is_output c) n (k + 1) (j + x)
counted c {k = k} so below e = sum_more so below (e ∙ from_bool-one (is_output c k))

pub overflow_add-j : goal.overflow_add-j
overflow_add-j c = omega (arith, sum_small (counted c.args.circuit.now c.loop-k.invariant.1 c.loop-k-test.true c.from-j.ensures))

pub loop-k-preserved : goal.loop-k-preserved
loop-k-preserved c =
    let below = c.loop-k-test.true in
    let inv = c.loop-k.invariant in
    (so_far_more inv.0 below c.put_difference-next.ensures, counted c.args.circuit.now inv.1 below c.from-j.ensures)

pub returns : goal.returns
returns c = so_far_all c.loop-k.invariant.0 c.loop-k-test.false

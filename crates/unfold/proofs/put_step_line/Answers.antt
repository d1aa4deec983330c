-- `unfold::put_step_line` meets its contract: a buffer where the line holds a value, else its own record, moved.
-- Assumes nothing.
use native.Mathlib.Omega.{arith}
use Rattle.ground.proofs.Put.{put_as}
use Rattle.unfold.proofs.Line.{later, held-ready, held_record, moved_ready, moved_record}
use Rattle.unfold.proofs.put_step_line.Goals as goal

pub overflow_sub-i : goal.overflow_sub-i
overflow_sub-i c = later c.requires.0 c.held_by-r.ensures c.if-r-states.true

pub overflow_mul-i : goal.overflow_mul-i
overflow_mul-i c = omega (arith, (held-ready c.requires.0 c.held_by-r.ensures c.if-r-states.true).few)

pub put_held-requires : goal.put_held-requires
put_held-requires c =
    (held-ready c.requires.0 c.held_by-r.ensures c.if-r-states.true, c.requires.1)

pub returns-then-r-states : goal.returns-then-r-states
returns-then-r-states c =
    put_as (held_record c.requires.0 c.held_by-r.ensures c.if-r-states.true)
    (rw c.step_out-flag.ensures at c.put_held.ensures)

pub overflow_mul-i-2 : goal.overflow_mul-i-2
overflow_mul-i-2 c = omega (arith, (moved_ready c.requires.0).few)

pub put_moved-requires : goal.put_moved-requires
put_moved-requires c = (moved_ready c.requires.0, c.requires.1)

pub returns : goal.returns
returns c =
    put_as (moved_record c.requires.0 (rw c.held_by-r.ensures at c.if-r-states.false))
    (rw c.step_out-flag.ensures at c.put_moved.ensures)

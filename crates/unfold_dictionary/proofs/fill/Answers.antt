-- `unfold_dictionary::fill` meets its contract: of both local memories as much is lent as is needed.
-- Assumes nothing.
use mathlib.Core.Path.{sym, ◌∙◌}
use Prim.Native.Nat.{◌*◌}
use native.Mathlib.Omega.{arith}
use Rattle.ground.proofs.Filled.{front_length}
use Rattle.unfold_dictionary.proofs.Filled.{few_lines}
use Rattle.unfold_dictionary.proofs.fill.Goals as goal

pub overflow_mul-size : goal.overflow_mul-size
overflow_mul-size c = omega (arith, few_lines c.requires)

pub overflow_mul-size-2 : goal.overflow_mul-size-2
overflow_mul-size-2 c = omega (arith, few_lines c.requires)

pub overflow_mul-room : goal.overflow_mul-room
overflow_mul-room c = omega (arith, few_lines c.requires)

pub overflow_mul-room-2 : goal.overflow_mul-room-2
overflow_mul-room-2 c = omega (arith, few_lines c.requires)

pub slice_bounds-unfolded-end : goal.slice_bounds-unfolded-end
slice_bounds-unfolded-end c = omega (arith, few_lines c.requires)

pub slice_bounds-fill_in-end : goal.slice_bounds-fill_in-end
slice_bounds-fill_in-end c = sym (front_length 16384 0 _ (omega (arith, few_lines c.requires)))

pub slice_bounds-words-end : goal.slice_bounds-words-end
slice_bounds-words-end c = omega (arith, few_lines c.requires)

pub slice_bounds-fill_in-end-2 : goal.slice_bounds-fill_in-end-2
slice_bounds-fill_in-end-2 c = sym (front_length 8192 0 _ (omega (arith, few_lines c.requires)))

pub fill_in-requires : goal.fill_in-requires
fill_in-requires c =
    let few = few_lines c.requires in
    record {
      ready = c.requires;
      fits = front_length 16384 0 (8 * (c.args.steps * c.args.n)) (omega arith) ∙ rw c.requires.lines;
      words_fit = front_length 8192 0 (4 * (c.args.steps * c.args.n)) (omega arith) ∙ rw c.requires.lines;
    }

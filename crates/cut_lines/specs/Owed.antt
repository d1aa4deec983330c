-- What the functions that cut a circuit owe each other and their callers; no reader of the promises needs it.
-- Assumes nothing.
use Rattle.std.specs.Prelude.{◌≡◌, List, ℕ, ◌*◌, eqb, length}
use Rattle.ground.specs.Choose.{choose}
use Rattle.cut.specs.Cut.{no_kind}
use Rattle.heads.specs.Marks.{Marked}

unfoldable pub kind_by : ℕ → ℕ → ℕ
kind_by mark kind = choose (eqb mark 2) kind (choose (eqb mark 1) 0 no_kind)

unfoldable pub out_by : ℕ → ℕ → ℕ
out_by mark out = choose (eqb mark 0) 0 out

-- `lines` is a copy of the circuit, whose lines are marked
pub record CutReady (c marks lines : List ℕ) : Type 0 where
  pub size : length c ≡ 8 * length marks
  pub marked : Marked c (length marks) marks
  pub copied : lines ≡ c

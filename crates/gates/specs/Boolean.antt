-- The gates on Booleans, defined on their own.
-- Assumes nothing.
use Rattle.std.specs.Prelude.{Bool, false, not, ◌&&◌, ◌||◌, ℕ, eqb}
use Rattle.std.specs.Bool.{beq}
use Rattle.ground.specs.Choose.{choose}

-- kinds 1 to 9, by what each pin sees; no other kind is a gate
unfoldable pub bool_gate : ℕ → (ℕ → Bool) → Bool
bool_gate kind v =
    choose (eqb kind 1) (v 1)
    (choose (eqb kind 2) (not (v 1))
    (choose (eqb kind 3) (v 1 && v 2)
    (choose (eqb kind 4) (not (v 1 && v 2))
    (choose (eqb kind 5) (v 1 || v 2)
    (choose (eqb kind 6) (not (v 1 || v 2))
    (choose (eqb kind 7) (not (beq (v 1) (v 2)))
    (choose (eqb kind 8) (beq (v 1) (v 2))
    (choose (eqb kind 9) (choose (v 3) (v 2) (v 1))
    false))))))))

-- Where a line's words begin.
-- Assumes nothing.
use mathlib.Core.Path.{◌≡◌, refl, ap}
use mathlib.Core.List.{List}
use Prim.Native.Nat.{ℕ, zero, suc, ◌-◌}
use native.Mathlib.Omega.{arith}
use lib.ListN.{get_or}
use Rattle.forms.specs.Lines.{start_at}

pub first_line : (es : List ℕ) (k : ℕ) → k ≡ 0 → 0 ≡ start_at es k
unfolding start_at
first_line es zero e = refl
first_line es (suc k) e = absurd (omega arith)

pub later_line : (es : List ℕ) (k : ℕ) → (k ≡ 0 → ⊥) → get_or es (k - 1) 0 ≡ start_at es k
unfolding start_at
later_line es zero n = absurd (n refl)
later_line es (suc k) n = let e : suc k - 1 ≡ k = omega arith in ap (λ (i : ℕ). get_or es i 0) e
